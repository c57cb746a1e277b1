-- What entering a record in its table comes to in the market.
use Rattle.std.proofs.Common.{◌≡◌, ℕ, ◌+◌, ◌<◌, true, List, ◌++◌, length, get_or, is_some, Some, None, Option, Result, refl, ap, ◌∙◌}
use Rattle.std.proofs.Math.Bool.{Bool-set}
use Rattle.std.proofs.Math.Nat.{ℕ_set}
use Rattle.std.proofs.Math.Path.{fun_ext}
use Rattle.std.specs.Option.{option_to_list}
use Rattle.records.specs.Registers.{listed}
use Rattle.records.specs.Rows.{sound}
use Rattle.market.specs.Calls.{decided, entry_checks, enter, Enters}
use Rattle.market.specs.Capacity.{capacity_of, places, blank}
use Rattle.market.specs.Grounds.{first_struck}
use Rattle.market.specs.States.{State}
use Rattle.market.specs.declared.market.Market.{Market}
use Rattle.market.specs.declared.refusal.Refusal.{Refusal}

module _ {T : Type 0} (most : ℕ) (had : Option T) (before after : List T) (r : Result ℕ Refusal) (s : State) (e : Enters s.phase most had before after r)
    (put : List T → State → State) (same : put before s ≡ s) where
  told : (k : Option Refusal) → first_struck (entry_checks s.phase (is_some had) most (length before)) ≡ k
      → (r ≡ (decided k (length before + 1) (put (before ++ option_to_list had) s) s).answer) × (put after s ≡ (decided k (length before + 1) (put (before ++ option_to_list had) s) s).after)
  told None is = let t = e.taken is in (t.0, ap (λ l. put l s) t.1)
  told (Some g) is = let t = e.struck g is in (t.0, ap (λ l. put l s) t.1 ∙ same)

  pub enters : (r ≡ (enter most before put had s).answer) × (put after s ≡ (enter most before put had s).after)
  enters = told _ refl

-- a market does not depend on which proofs of its invariants it carries
pub same_market : (m : Market) (p : m.capacity ≡ capacity_of (places m.orders) (places m.trades)) (q : (k : ℕ) → k < length (listed m.orders) → sound (get_or (listed m.orders) k blank) ≡ true)
    → ◌≡◌ {A = Market} (record { phase = m.phase; date = m.date; capacity = m.capacity; contracts = m.contracts; instruments = m.instruments; accounts = m.accounts; orders = m.orders; trades = m.trades; capped = p; rows_sound = q }) m
same_market m p q =
    ap (λ x. record { phase = m.phase; date = m.date; capacity = m.capacity; contracts = m.contracts; instruments = m.instruments; accounts = m.accounts; orders = m.orders; trades = m.trades; capped = x; rows_sound = q }) (ℕ_set m.capacity (capacity_of (places m.orders) (places m.trades)) p m.capped)
    ∙ ap (λ x. record { phase = m.phase; date = m.date; capacity = m.capacity; contracts = m.contracts; instruments = m.instruments; accounts = m.accounts; orders = m.orders; trades = m.trades; capped = m.capped; rows_sound = x })
    (fun_ext (λ k. fun_ext (λ h. Bool-set (sound (get_or (listed m.orders) k blank)) true (q k h) (m.rows_sound k h))))
