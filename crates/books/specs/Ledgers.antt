-- The table of accounts.
use Rattle.std.specs.Prelude.{◌≡◌, ℕ, ◌≤◌, List, [], ◌∷◌, ◌++◌, replicate, ℤ, pos, unsigned_abs}
use Rattle.records.specs.declared.account.Account.{Account}
use Rattle.records.specs.declared.rows.Trade.{Trade}
use Rattle.tables.specs.Tables.{entered}
use Rattle.records.specs.Accounts.{holding}
use Rattle.books.specs.Accounts.{position, money}
use Rattle.books.specs.Entries.{Reading, difference, settled_at, change_to, Agrees, Balanced}
use Rattle.books.specs.declared.ledger.Ledger.{Ledger}

-- the accounts admitted so far, in the order of their numbers
abbrev pub accounts_of : Ledger → List Account
accounts_of l = entered l.accounts

-- an account's position in a contract, and its money, are far from what the code's numbers can hold
abbrev pub Small : Account → ℕ → Type 0
Small a contract = (unsigned_abs (holding a contract) ≤ 100000000) × (unsigned_abs a.money ≤ 300000000000000000)

-- an account has room for one more trade in a contract
abbrev pub Room : List Account → ℕ → ℕ → Type 0
Room accounts n contract = (unsigned_abs (position accounts n contract) ≤ 90000000) × (unsigned_abs (money accounts n) ≤ 290000000000000000)

-- an account without positions or money
abbrev pub Empty : Account → Type 0
Empty a = (a.positions ≡ replicate 32 (pos 0)) × (a.money ≡ pos 0)

-- Whatever the entries are read by: positions and money that were what the trades come to still are, and still sum to
-- nought.
abbrev pub NothingDue : List Account → List Account → Type 0
NothingDue before after =
    ((r : Reading) (ts : List Trade) → Agrees r before ts → Agrees r after ts) × (Balanced before → Balanced after)

-- Whatever the entries are read by: a trade that is booked as its reading says, and entered, leaves positions and money
-- what the trades come to.
abbrev pub KeepsAgreement : Trade → ℕ → ℕ → ℤ → List Account → List Account → Type 0
KeepsAgreement t buyer seller by before after =
    (r : Reading) (ts : List Trade) → r.owner t.buying_order ≡ buyer → r.owner t.selling_order ≡ seller → difference r t ≡ by
    → Agrees r before ts → Agrees r after (ts ++ t ∷ [])

-- Whatever the entries are read by: accounts that are revalued by the change to another settlement price are what the
-- trades come to at that price.
abbrev pub KeepsAgreementAt : ℕ → ℤ → List Account → List Account → Type 0
KeepsAgreementAt contract by before after =
    (r : Reading) (ts : List Trade) (price : ℤ) → change_to r contract price ≡ by → Agrees r before ts → Agrees (settled_at r contract price) after ts
