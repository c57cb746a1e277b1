-- Each check of a call that enters a record or changes the phase strikes exactly where its ground does.
use Rattle.std.proofs.Common.{◌≡◌, ℕ, Bool, true, false, not, leb, [], ◌∷◌, ℤ, pos, neg_ℤ, ◌≤ℤ◌, Some, None, Decides, Option, sym, refl, ap, ◌∙◌, subst, inl, inr, arith}
use Rattle.std.specs.Int.Signed.{le_z}
use Rattle.std.proofs.lemmas.Int.{ints}
use Rattle.std.proofs.lemmas.Bool.{both_ways}
use Rattle.std.proofs.lemmas.Bool.Decides.{Decides-and, Decides-like}
use Rattle.records.proofs.Deciding.{decides_leb, decides_le_ℤ}
use Rattle.records.specs.Ranges.{between, absent_or_between, price_in_range, bounds_in_order, prices_in_order, contract_in_range, instrument_in_range, account_in_range}
use Rattle.records.specs.declared.codes.Phase.{Phase}
use Rattle.records.specs.declared.codes.Phase.TheVariants.{Suspended, Trading}
use Rattle.records.specs.declared.terms.AccountTerms.{AccountTerms}
use Rattle.records.specs.declared.terms.ContractTerms.{ContractTerms}
use Rattle.records.specs.declared.terms.InstrumentTerms.{InstrumentTerms}
use Rattle.market.specs.Calls.{is_trading}
use Rattle.market.specs.Grounds.{Stands, strike_if}
use Rattle.market.specs.Refusals.{ground}
use Rattle.market.specs.Strikes.{Between, Price, AbsentOr, ContractInRange, InstrumentInRange, AccountInRange, EntryGrounds}
use Rattle.market.specs.declared.refusal.Refusal.{Refusal}
use Rattle.market.specs.declared.refusal.Refusal.TheVariants.{WrongPhase, Unknown, Inadmissible, PastLastDay, OutOfBounds, Full, OverLimit, OwnOrder, AnotherAccount, NotActive}
use Rattle.market.proofs.Law.{Checks, Each}

decides_between : (low high n : ℕ) → Decides (between low high n) (Between low high n)
decides_between low high n = Decides-and (leb low n) (leb n high) (decides_leb low n) (decides_leb n high)

decides_price : (p : ℤ) → Decides (price_in_range p) (Price p)
decides_price p = Decides-and (le_z (neg_ℤ (pos 1000000)) p) (le_z p (pos 1000000)) (decides_le_ℤ (neg_ℤ (pos 1000000)) p) (decides_le_ℤ p (pos 1000000))

decides_absent_or : (low high : ℕ) (n : Option ℕ) → Decides (absent_or_between low high n) (AbsentOr (Between low high) n)
decides_absent_or low high None = (λ _. tt, λ _. refl)
decides_absent_or low high (Some n) = decides_between low high n

decides_bounds : (lower upper : ℤ) → Decides (bounds_in_order lower upper) (Price lower × (Price upper × (lower ≤ℤ upper)))
decides_bounds lower upper =
    Decides-and (price_in_range lower) _ (decides_price lower) (Decides-and (price_in_range upper) (le_z lower upper) (decides_price upper) (decides_le_ℤ lower upper))

-- the fields of a contract in the order of its check
abbrev ContractFields : ContractTerms → Type 0
ContractFields t =
    Between 1 65535 t.underlying
    × (Between 1 100000 t.last_day
    × (((Price t.lower × (Price t.upper × (t.lower ≤ℤ t.upper))) × (Price t.settlement × ((t.lower ≤ℤ t.settlement) × (t.settlement ≤ℤ t.upper))))
    × (Between 1 1000 t.w × Between 1 1000 t.r)))

decides_fields : (t : ContractTerms) → Decides (contract_in_range t) (ContractFields t)
decides_fields t =
    Decides-and (between 1 65535 t.underlying) _ (decides_between 1 65535 t.underlying)
    (Decides-and (between 1 100000 t.last_day) _ (decides_between 1 100000 t.last_day)
    (Decides-and (prices_in_order t.lower t.settlement t.upper) _
    (Decides-and (bounds_in_order t.lower t.upper) _ (decides_bounds t.lower t.upper)
    (Decides-and (price_in_range t.settlement) _ (decides_price t.settlement)
    (Decides-and (le_z t.lower t.settlement) (le_z t.settlement t.upper) (decides_le_ℤ t.lower t.settlement) (decides_le_ℤ t.settlement t.upper))))
    (Decides-and (between 1 1000 t.w) (between 1 1000 t.r) (decides_between 1 1000 t.w) (decides_between 1 1000 t.r))))

transitive : (a b c : ℤ) → a ≤ℤ b → b ≤ℤ c → a ≤ℤ c
transitive a b c h k = omega (arith, ints)

pub decides_contract : (t : ContractTerms) → Decides (contract_in_range t) (ContractInRange t)
decides_contract t =
    Decides-like (contract_in_range t)
    (λ f. record {
      underlying = f.0;
      last_day = f.1.0;
      lower = f.1.1.0.0.0;
      upper = f.1.1.0.0.1.0;
      settlement = f.1.1.0.1.0;
      not_below = f.1.1.0.1.1.0;
      not_above = f.1.1.0.1.1.1;
      w = f.1.1.1.0;
      r = f.1.1.1.1;
    })
    (λ f. (f.underlying, (f.last_day, (((f.lower, (f.upper, transitive t.lower t.settlement t.upper f.not_below f.not_above)), (f.settlement, (f.not_below, f.not_above))), (f.w, f.r)))))
    (decides_fields t)

pub decides_instrument : (t : InstrumentTerms) → Decides (instrument_in_range t) (InstrumentInRange t)
decides_instrument t =
    Decides-like (instrument_in_range t)
    (λ f. record { kind = f.0; first = f.1.0; second = f.1.1.0; lower = f.1.1.1.0; upper = f.1.1.1.1.0; in_order = f.1.1.1.1.1 })
    (λ f. (f.kind, (f.first, (f.second, (f.lower, (f.upper, f.in_order))))))
    (Decides-and (between 1 255 t.kind) _ (decides_between 1 255 t.kind)
    (Decides-and (between 1 32 t.first) _ (decides_between 1 32 t.first)
    (Decides-and (absent_or_between 1 32 t.second) (bounds_in_order t.lower t.upper) (decides_absent_or 1 32 t.second) (decides_bounds t.lower t.upper))))

pub decides_account : (t : AccountTerms) → Decides (account_in_range t) (AccountInRange t)
decides_account t =
    Decides-like (account_in_range t)
    (λ f. record { participant = f.0; taxpayer = f.1 })
    (λ f. (f.participant, f.taxpayer))
    (Decides-and (between 1 65535 t.participant) (between 1 65535 t.taxpayer) (decides_between 1 65535 t.participant) (decides_between 1 65535 t.taxpayer))

pub decides_trading : (p : Phase) → Decides (is_trading p) (p ≡ Trading)
decides_trading Trading = (λ _. refl, λ _. refl)
decides_trading Suspended = (λ e. absurd (both_ways false refl e), λ e. ap is_trading e)

pub decides_suspended : (p : Phase) → Decides (not (is_trading p)) (p ≡ Suspended)
decides_suspended Trading = (λ e. absurd (both_ways false refl e), λ e. ap (λ q. not (is_trading q)) e)
decides_suspended Suspended = (λ _. refl, λ _. refl)

-- each number has its ground
one : (g : Refusal) → ground g ≡ 1 → g ≡ WrongPhase
one WrongPhase e = refl
one Unknown e = absurd (omega arith)
one Inadmissible e = absurd (omega arith)
one PastLastDay e = absurd (omega arith)
one OutOfBounds e = absurd (omega arith)
one Full e = absurd (omega arith)
one (OverLimit c) e = absurd (omega arith)
one (OwnOrder o) e = absurd (omega arith)
one AnotherAccount e = absurd (omega arith)
one NotActive e = absurd (omega arith)

three : (g : Refusal) → ground g ≡ 3 → g ≡ Inadmissible
three WrongPhase e = absurd (omega arith)
three Unknown e = absurd (omega arith)
three Inadmissible e = refl
three PastLastDay e = absurd (omega arith)
three OutOfBounds e = absurd (omega arith)
three Full e = absurd (omega arith)
three (OverLimit c) e = absurd (omega arith)
three (OwnOrder o) e = absurd (omega arith)
three AnotherAccount e = absurd (omega arith)
three NotActive e = absurd (omega arith)

six : (g : Refusal) → ground g ≡ 6 → g ≡ Full
six WrongPhase e = absurd (omega arith)
six Unknown e = absurd (omega arith)
six Inadmissible e = absurd (omega arith)
six PastLastDay e = absurd (omega arith)
six OutOfBounds e = absurd (omega arith)
six Full e = refl
six (OverLimit c) e = absurd (omega arith)
six (OwnOrder o) e = absurd (omega arith)
six AnotherAccount e = absurd (omega arith)
six NotActive e = absurd (omega arith)

-- a check of one ground, by a test that decides whether it strikes
module _ (Strikes : Refusal → Type 0) (n : ℕ) (h : Refusal) (is : ground h ≡ n) (only : (g : Refusal) → ground g ≡ n → g ≡ h) where
  alone : (f g : Refusal) → ground f ≡ n → ground g ≡ n → Strikes f → Strikes g → f ≡ g
  alone f g a b s t = only f a ∙ sym (only g b)

  check_if : (test : Bool) → Decides test (Strikes h) → Checks Strikes n (strike_if test h)
  check_if true d =
      record {
        struck = λ g e. let same : h ≡ g = cc in subst (λ k. (ground k ≡ n) × Strikes k) same (is, d.0 refl);
        passed = λ e g a s. let z : ◌≡◌ {A = ℕ} 0 1 = cc in omega arith;
        single = alone;
      }
  check_if false d =
      record {
        struck = λ g e. let z : ◌≡◌ {A = ℕ} 0 1 = cc in absurd (omega arith);
        passed = λ e g a s. both_ways false refl (d.1 (subst Strikes (only g a) s));
        single = alone;
      }

-- the checks of a call that enters a record
module _ (P Q R : Type 0) where
  abbrev Entry : Refusal → Type 0
  Entry = EntryGrounds P Q R

  pub each_entry : (p q r : Bool) → Decides p P → Decides q Q → Decides r R → Each Entry (1 ∷ 3 ∷ 6 ∷ []) (strike_if p WrongPhase ∷ strike_if q Inadmissible ∷ strike_if r Full ∷ [])
  each_entry p q r dp dq dr =
      (check_if Entry 1 WrongPhase refl one p dp, (check_if Entry 3 Inadmissible refl three q dq, (check_if Entry 6 Full refl six r dr, tt)))

  pub entry_inside : (g : Refusal) → Entry g → Stands (ground g) (1 ∷ 3 ∷ 6 ∷ [])
  entry_inside WrongPhase s = inl refl
  entry_inside Unknown s = absurd s
  entry_inside Inadmissible s = inr (inl refl)
  entry_inside PastLastDay s = absurd s
  entry_inside OutOfBounds s = absurd s
  entry_inside Full s = inr (inr (inl refl))
  entry_inside (OverLimit c) s = absurd s
  entry_inside (OwnOrder o) s = absurd s
  entry_inside AnotherAccount s = absurd s
  entry_inside NotActive s = absurd s

-- the check of a call that looks at the phase alone
module _ (P : Type 0) where
  pub each_phase : (p : Bool) → Decides p P → Each (EntryGrounds P ⊥ ⊥) (1 ∷ []) (strike_if p WrongPhase ∷ [])
  each_phase p dp = (check_if (EntryGrounds P ⊥ ⊥) 1 WrongPhase refl one p dp, tt)

  pub phase_inside : (g : Refusal) → EntryGrounds P ⊥ ⊥ g → Stands (ground g) (1 ∷ [])
  phase_inside WrongPhase s = inl refl
  phase_inside Unknown s = absurd s
  phase_inside Inadmissible s = absurd s
  phase_inside PastLastDay s = absurd s
  phase_inside OutOfBounds s = absurd s
  phase_inside Full s = absurd s
  phase_inside (OverLimit c) s = absurd s
  phase_inside (OwnOrder o) s = absurd s
  phase_inside AnotherAccount s = absurd s
  phase_inside NotActive s = absurd s
