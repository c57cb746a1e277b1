-- The values of a line's fields, gathered word by word.
use Rattle.std.proofs.Common.{◌≡◌, ℕ, List, [], ◌∷◌, Ok, Err}
use Rattle.sheet.specs.declared.key.Key.{Key}
use Rattle.sheet.specs.declared.values.Values.{Values}
use Rattle.sheet.specs.Faults.{LineFault}
use Rattle.sheet.specs.Fields.{with_field, with_fields}

pub at_fault : (keys : List Key) (vs : Values) (w : List ℕ) (ws' ws : List (List ℕ)) (fault : LineFault) → ws ≡ w ∷ ws' → Err fault ≡ with_field keys vs w
    → with_fields keys vs ws ≡ Err fault
unfolding with_fields
at_fault keys vs w ws' ws fault e h = rw e (rw (← h))

pub one_more : (keys : List Key) (vs more : Values) (w : List ℕ) (ws' ws : List (List ℕ)) → ws ≡ w ∷ ws' → Ok more ≡ with_field keys vs w
    → with_fields keys vs ws ≡ with_fields keys more ws'
unfolding with_fields
one_more keys vs more w ws' ws e h = rw e (rw (← h))

pub all_read : (keys : List Key) (vs : Values) (ws : List (List ℕ)) → ws ≡ [] → with_fields keys vs ws ≡ Ok vs
unfolding with_fields
all_read keys vs ws e = rw e
