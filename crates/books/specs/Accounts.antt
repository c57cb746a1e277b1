-- Accounts by number, what each holds, and what booking changes.
use Rattle.std.specs.Prelude.{ℕ, List, replicate, ℤ, pos, ◌+ℤ◌, ◌*ℤ◌, neg_ℤ, refl}
use Rattle.std.specs.Option.{unwrap_or}
use Rattle.std.proofs.Common.{◌∙◌}
use Rattle.records.specs.Registers.{numbered, replaced}
use Rattle.records.proofs.Numbered.{length_replaced}
pub use Rattle.records.specs.Accounts.{holding}
use Rattle.records.specs.declared.account.Account.{Account}
use Rattle.records.specs.declared.rows.Trade.{Trade}

-- what is read of an account that there is not: it holds nothing
abbrev pub nobody : Account
nobody =
    record { holder = record { terms = record { participant = 1; taxpayer = 1 }; ranges = refl }; positions = replicate 32 (pos 0); money = pos 0; wide = refl }

abbrev pub account_at : List Account → ℕ → Account
account_at accounts n = unwrap_or (numbered accounts n) nobody

abbrev pub position : List Account → ℕ → ℕ → ℤ
position accounts n contract = holding (account_at accounts n) contract

abbrev pub money : List Account → ℕ → ℤ
money accounts n = (account_at accounts n).money

-- an account with lots more in a contract, and money gained
abbrev pub entered : ℕ → ℤ → ℤ → Account → Account
entered contract lots gain a =
    record { holder = a.holder; positions = replaced a.positions contract (holding a contract +ℤ lots); money = a.money +ℤ gain; wide = length_replaced a.positions contract (holding a contract +ℤ lots) ∙ a.wide }

-- the same in one account of a table
unfoldable pub enter_at : ℕ → ℕ → ℤ → ℤ → List Account → List Account
enter_at n contract lots gain accounts = replaced accounts n (entered contract lots gain (account_at accounts n))

-- A trade booked: the buying account gains the quantity times the difference of value, the selling account loses it, and
-- the lots pass from the seller to the buyer.
unfoldable pub booked : Trade → ℕ → ℕ → ℤ → List Account → List Account
booked t buyer seller difference accounts =
    enter_at seller t.contract (neg_ℤ (pos t.quantity)) (neg_ℤ (pos t.quantity *ℤ difference))
    (enter_at buyer t.contract (pos t.quantity) (pos t.quantity *ℤ difference) accounts)

-- an account revalued: its money gains its position times the change of value
unfoldable pub revalued : ℕ → ℤ → Account → Account
revalued contract change a = record { holder = a.holder; positions = a.positions; money = a.money +ℤ holding a contract *ℤ change; wide = a.wide }
