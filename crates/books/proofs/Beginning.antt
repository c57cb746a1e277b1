-- No account, and one account more.
use Rattle.std.proofs.Common.{◌≡◌, ℕ, zero, suc, List, [], ◌∷◌, ◌++◌, replicate, ℤ, pos, unwrap_or, sym, refl, ap, ◌∙◌, arith}
use Rattle.std.proofs.lemmas.Int.{ints}
use Rattle.std.specs.List.{slice_get}
use Rattle.records.specs.Registers.{numbered}
use Rattle.records.specs.declared.account.Account.{Account}
use Rattle.books.specs.Accounts.{nobody, account_at, holding}
use Rattle.books.specs.Entries.{Reading, sum_ℤ, Agrees, Balanced}
use Rattle.books.specs.Ledgers.{Empty, NothingDue}
use Rattle.books.proofs.Sums.{sum_ℤ_push}

noughts : (n k : ℕ) → unwrap_or (slice_get (replicate n (pos 0)) k) (pos 0) ≡ pos 0
noughts zero k = refl
noughts (suc n) zero = refl
noughts (suc n) (suc k) = noughts n k

noughts_at : (n contract : ℕ) → unwrap_or (numbered (replicate n (pos 0)) contract) (pos 0) ≡ pos 0
noughts_at n zero = refl
noughts_at n (suc k) = noughts n k

pub nobody_holds : (contract : ℕ) → holding nobody contract ≡ pos 0
nobody_holds contract = noughts_at 32 contract

none_at : (a : ℕ) → account_at [] a ≡ nobody
none_at zero = refl
none_at (suc k) = refl

pub none_agrees : (r : Reading) → Agrees r [] []
none_agrees r =
    record { lots = λ a contract. ap (λ x. holding x contract) (none_at a) ∙ nobody_holds contract; gains = λ a. ap (λ x. x.money) (none_at a) }

pub none_balanced : Balanced []
none_balanced = record { lots = λ contract. refl; gains = refl }

module _ (f : Account → ℤ) (b : Account) (e : f b ≡ f nobody) where
  one_more : (xs : List Account) (k : ℕ) → f (unwrap_or (slice_get (xs ++ b ∷ []) k) nobody) ≡ f (unwrap_or (slice_get xs k) nobody)
  one_more [] zero = e
  one_more [] (suc k) = refl
  one_more (x ∷ xs) zero = refl
  one_more (x ∷ xs) (suc k) = one_more xs k

  same_at : (xs : List Account) (n : ℕ) → f (account_at (xs ++ b ∷ []) n) ≡ f (account_at xs n)
  same_at xs zero = refl
  same_at xs (suc k) = one_more xs k

one_more_sum : (f : Account → ℤ) (b : Account) → f b ≡ pos 0 → (xs : List Account) → sum_ℤ f xs ≡ pos 0 → sum_ℤ f (xs ++ b ∷ []) ≡ pos 0
one_more_sum f b e xs h = let p = sum_ℤ_push f xs b in omega (arith, ints)

module _ (b : Account) (empty : Empty b) where
  empty_holds : (contract : ℕ) → holding b contract ≡ pos 0
  empty_holds contract = ap (λ ps. unwrap_or (numbered ps contract) (pos 0)) empty.0 ∙ noughts_at 32 contract

  pub nothing_due : (xs : List Account) → NothingDue xs (xs ++ b ∷ [])
  nothing_due xs = (
    λ r ts g. record {
      lots = λ a contract. same_at (λ x. holding x contract) b (empty_holds contract ∙ sym (nobody_holds contract)) xs a ∙ g.lots a contract;
      gains = λ a. same_at (λ x. x.money) b empty.1 xs a ∙ g.gains a;
    },
    λ h. record {
      lots = λ contract. one_more_sum (λ x. holding x contract) b (empty_holds contract) xs (h.lots contract);
      gains = one_more_sum (λ x. x.money) b empty.1 xs h.gains;
    },
  )
