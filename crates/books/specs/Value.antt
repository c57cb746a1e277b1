-- The value of a price.
use Rattle.std.specs.Prelude.{ℕ, ℤ, pos, ◌-ℤ◌, ◌*ℤ◌, int_div}
use Rattle.records.specs.declared.contract.Contract.{Contract}

-- the price times w, divided by r, rounded towards nought
abbrev pub value : ℤ → ℕ → ℕ → ℤ
value price w r = int_div (price *ℤ pos w) (pos r)

-- the value of a price in a contract
abbrev pub value_at : Contract → ℤ → ℤ
value_at c price = value price c.terms.w c.terms.r

-- what a lot bought at a price gains: the value of the settlement price less the value of that price
abbrev pub difference_at : Contract → ℤ → ℤ
difference_at c price = value_at c c.terms.settlement -ℤ value_at c price

-- what a lot held gains by a new settlement price: its value less the value of the present one
abbrev pub change_at : Contract → ℤ → ℤ
change_at c price = value_at c price -ℤ value_at c c.terms.settlement
