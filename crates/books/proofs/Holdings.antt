-- One account's positions as the code reads and writes them.
use Rattle.std.proofs.Common.{◌≡◌, ℕ, zero, suc, ◌-◌, ◌<◌, List, length, get_or, set, ℤ, Some, Option, unwrap_or, sym, refl, ap, ◌∙◌, subst, arith}
use Rattle.std.proofs.Math.Nat.{ℕ_set}
use Rattle.std.proofs.Math.Numerals.{unary_clauses}
use Rattle.std.proofs.lemmas.Option.{unwrap_or-slice_get}
use Rattle.records.specs.Registers.{numbered, replaced}
use Rattle.records.specs.declared.account.Account.{Account}
use Rattle.records.specs.declared.holder.Holder.{Holder}
use Rattle.books.specs.Accounts.{nobody, account_at}

pub numbered_or : {X : Type 0} (xs : List X) (n : ℕ) (d : X) → 0 < n → unwrap_or (numbered xs n) d ≡ get_or xs (n - 1) d
numbered_or xs zero d h = absurd (omega arith)
numbered_or xs (suc n) d h = simp unary_clauses (unwrap_or-slice_get xs n d)

replaced_set : {X : Type 0} (xs : List X) (n : ℕ) (x : X) → 0 < n → replaced xs n x ≡ set xs (n - 1) x
replaced_set xs zero x h = absurd (omega arith)
replaced_set xs (suc n) x h = simp unary_clauses refl

-- an account is its holder, positions and money
pub same_account : (h : Holder) (p q : List ℤ) (m n : ℤ) (w : length p ≡ 32) (v : length q ≡ 32) → p ≡ q → m ≡ n
    → ◌≡◌ {A = Account} (record { holder = h; positions = p; money = m; wide = w }) (record { holder = h; positions = q; money = n; wide = v })
same_account h p q m n w v e f =
    subst (λ (k : ℤ). ◌≡◌ {A = Account} (record { holder = h; positions = p; money = m; wide = w }) (record { holder = h; positions = q; money = k; wide = v })) f
    (subst (λ (xs : List ℤ). (u : length xs ≡ 32) → ◌≡◌ {A = Account} (record { holder = h; positions = p; money = m; wide = w }) (record { holder = h; positions = xs; money = m; wide = u })) e
    (λ u. ap (λ y. record { holder = h; positions = p; money = m; wide = y }) (ℕ_set (length p) 32 w u)) v)

pub set_at : {X : Type 0} (xs : List X) (n : ℕ) (x y : X) → 0 < n → x ≡ y → set xs (n - 1) x ≡ replaced xs n y
set_at xs n x y h e = ap (set xs (n - 1)) e ∙ sym (replaced_set xs n y h)

pub found : (accounts : List Account) (n : ℕ) (a : Account) → Some a ≡ numbered accounts n → a ≡ account_at accounts n
found accounts n a e = ap (λ (o : Option Account). unwrap_or o nobody) e
