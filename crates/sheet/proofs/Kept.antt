-- The values of a line's fields are those that its words write.
use Rattle.std.proofs.Common.{◌≡◌, ℕ, ◌<◌, Bool, true, false, cond, eqb, ◌≢◌, ◌⊎◌, List, [], ◌∷◌, length, get_or, is_some, Some, None, Ok, Err, Option, Result, sym, refl, ap, ◌∙◌, subst, inl, inr, arith, eqb-true}
use Rattle.std.proofs.lemmas.Bool.{eqb-false}
use Rattle.std.proofs.lemmas.List.{get_or-set_same, get_or-set_other, get_or-replicate, length-set}
use Rattle.sheet.specs.declared.fault.Fault.TheVariants.{Repeated}
use Rattle.sheet.specs.declared.key.Key.{Key}
use Rattle.sheet.specs.declared.key.Key.TheVariants.{Orders}
use Rattle.sheet.specs.declared.value.Value.{Value}
use Rattle.sheet.specs.declared.values.Values.{Values}
use Rattle.sheet.specs.Faults.{LineFault, and_then}
use Rattle.sheet.specs.Fields.{field_key, field_text, with_number, with_keyed, with_field, with_fields}
use Rattle.sheet.specs.Keys.{all_keys, place, key_kind}
use Rattle.sheet.specs.Laws.{Writes, Written, AllKept, Lacks, EachOnce, FieldsHold}
use Rattle.sheet.specs.Numbers.{value_of}
use Rattle.sheet.specs.Values.{no_values, value_at, with_value}
use Rattle.sheet.proofs.KeyNames.{at_place, place_within}

-- one place for each key
abbrev Whole : Values → Type 0
Whole vs = length vs.given ≡ length all_keys

-- what a word that is read brings about
pub record Step (keys : List Key) (vs more : Values) (word : List ℕ) : Type 0 where
  pub key : Key
  pub x : Value
  pub writes : Writes keys key x word
  pub fresh : value_at vs key ≡ None
  pub entered : more ≡ with_value vs key x

none_there : (o : Option Value) → is_some o ≡ false → o ≡ None
none_there None e = refl
none_there (Some x) e = absurd cc

step : (keys : List Key) (vs more : Values) (word : List ℕ) → with_field keys vs word ≡ Ok more → Step keys vs more word
step keys vs more word e = go (field_key keys word) refl e
  where
    last : (key : Key) → field_key keys word ≡ Some key → value_at vs key ≡ None → (o : Option Value) → value_of (key_kind key) (field_text word) ≡ o
        → with_number vs key o ≡ Ok more → Step keys vs more word
    last key k f None n h = absurd cc
    last key k f (Some x) n h =
        let same : with_value vs key x ≡ more = cc in
        record { key = key; x = x; writes = record { keyed = k; number = n }; fresh = f; entered = sym same }

    mid : (key : Key) → field_key keys word ≡ Some key → (t : Bool) → is_some (value_at vs key) ≡ t
        → cond t (Err (Repeated key)) (with_number vs key (value_of (key_kind key) (field_text word))) ≡ Ok more → Step keys vs more word
    mid key k true s h = absurd cc
    mid key k false s h = last key k (none_there (value_at vs key) s) (value_of (key_kind key) (field_text word)) refl h

    go : (o : Option Key) → field_key keys word ≡ o → with_keyed vs o word ≡ Ok more → Step keys vs more word
    go None k h = absurd cc
    go (Some key) k h = mid key k (is_some (value_at vs key)) refl h

-- no two keys have one place
same_place : (k l : Key) → place k ≡ place l → k ≡ l
same_place k l e = sym (at_place k) ∙ (ap (λ (i : ℕ). get_or all_keys i Orders) e ∙ at_place l)

whole_after : (keys : List Key) (vs more : Values) (word : List ℕ) → Whole vs → Step keys vs more word → Whole more
whole_after keys vs more word h s =
    ap (λ (v : Values). length v.given) s.entered ∙ (length-set vs.given (place s.key) (Some s.x) ∙ h)

there_after : (keys : List Key) (vs more : Values) (word : List ℕ) → Whole vs → (s : Step keys vs more word) → value_at more s.key ≡ Some s.x
there_after keys vs more word h s =
    ap (λ (v : Values). value_at v s.key) s.entered
    ∙ get_or-set_same vs.given (place s.key) (Some s.x) None (let w : place s.key < length all_keys = place_within s.key in omega arith)

-- a word changes the value of its own key alone
pub after : (keys : List Key) (vs more : Values) (word : List ℕ) (s : Step keys vs more word) (k : Key) → (k ≡ s.key) ⊎ (value_at more k ≡ value_at vs k)
after keys vs more word s k = go (eqb (place k) (place s.key)) refl
  where
    go : (t : Bool) → eqb (place k) (place s.key) ≡ t → (k ≡ s.key) ⊎ (value_at more k ≡ value_at vs k)
    go true e = inl (same_place k s.key (eqb-true _ _ e))
    go false e =
        let apart : place k ≢ place s.key = eqb-false _ _ e in
        inr (ap (λ (v : Values). value_at v k) s.entered ∙ get_or-set_other vs.given (place s.key) (place k) (Some s.x) None apart)

kept_after : (keys : List Key) (vs more : Values) (word : List ℕ) (s : Step keys vs more word) (k : Key) (y : Value) → value_at vs k ≡ Some y → value_at more k ≡ Some y
kept_after keys vs more word s k y h = go (after keys vs more word s k)
  where
    go : (k ≡ s.key) ⊎ (value_at more k ≡ value_at vs k) → value_at more k ≡ Some y
    go (inl e) =
        let a : value_at vs k ≡ None = ap (value_at vs) e ∙ s.fresh in
        absurd cc
    go (inr e) = e ∙ h

came_from : (keys : List Key) (vs more : Values) (word : List ℕ) → Whole vs → (s : Step keys vs more word) (k : Key) (y : Value) → value_at more k ≡ Some y
    → (value_at vs k ≡ Some y) ⊎ Writes keys k y word
came_from keys vs more word w s k y h = go (after keys vs more word s k)
  where
    go : (k ≡ s.key) ⊎ (value_at more k ≡ value_at vs k) → (value_at vs k ≡ Some y) ⊎ Writes keys k y word
    go (inl e) =
        let a : value_at more k ≡ Some s.x = ap (value_at more) e ∙ there_after keys vs more word w s in
        let same : s.x ≡ y = cc in
        let at_key : Writes keys k s.x word = subst (λ (l : Key). Writes keys l s.x word) (sym e) s.writes in
        inr (subst (λ (x : Value). Writes keys k x word) same at_key)
    go (inr e) = inl (sym e ∙ h)

-- the first word is read, and then the others
record Begun (keys : List Key) (vs end : Values) (word : List ℕ) (others : List (List ℕ)) : Type 0 where
  more : Values
  first : Step keys vs more word
  rest : with_fields keys more others ≡ Ok end

begun : (keys : List Key) (vs end : Values) (word : List ℕ) (others : List (List ℕ)) → with_fields keys vs (word ∷ others) ≡ Ok end → Begun keys vs end word others
unfolding with_fields
begun keys vs end word others e = go (with_field keys vs word) refl e
  where
    go : (r : Result Values LineFault) → with_field keys vs word ≡ r → and_then r (λ more. with_fields keys more others) ≡ Ok end → Begun keys vs end word others
    go (Ok more) h f = record { more = more; first = step keys vs more word h; rest = f }
    go (Err fault) h f = absurd cc

kept : (keys : List Key) (vs end : Values) (ws : List (List ℕ)) → with_fields keys vs ws ≡ Ok end → (k : Key) (y : Value) → value_at vs k ≡ Some y → value_at end k ≡ Some y
unfolding with_fields
kept keys vs end [] e k y h = let same : vs ≡ end = cc in ap (λ (v : Values). value_at v k) (sym same) ∙ h
kept keys vs end (word ∷ others) e k y h =
    let b = begun keys vs end word others e in
    kept keys b.more end others b.rest k y (kept_after keys vs b.more word b.first k y h)

all_kept : (keys : List Key) (vs end : Values) (ws : List (List ℕ)) → Whole vs → with_fields keys vs ws ≡ Ok end → AllKept keys ws end
all_kept keys vs end [] w e = tt
all_kept keys vs end (word ∷ others) w e =
    let b = begun keys vs end word others e in
    let s = b.first in (
      (s.key, s.x, s.writes, kept keys b.more end others b.rest s.key s.x (there_after keys vs b.more word w s)),
      all_kept keys b.more end others (whole_after keys vs b.more word w s) b.rest,
    )

came : (keys : List Key) (vs end : Values) (ws : List (List ℕ)) → Whole vs → with_fields keys vs ws ≡ Ok end → (k : Key) (y : Value) → value_at end k ≡ Some y
    → (value_at vs k ≡ Some y) ⊎ Written keys ws k y
unfolding with_fields
came keys vs end [] w e k y h = let same : vs ≡ end = cc in inl (ap (λ (v : Values). value_at v k) same ∙ h)
came keys vs end (word ∷ others) w e k y h =
    let b = begun keys vs end word others e in
    later b (came keys b.more end others (whole_after keys vs b.more word w b.first) b.rest k y h)
  where
    sooner : (value_at vs k ≡ Some y) ⊎ Writes keys k y word → (value_at vs k ≡ Some y) ⊎ Written keys (word ∷ others) k y
    sooner (inl f) = inl f
    sooner (inr f) = inr (inl f)

    later : (b : Begun keys vs end word others) → (value_at b.more k ≡ Some y) ⊎ Written keys others k y → (value_at vs k ≡ Some y) ⊎ Written keys (word ∷ others) k y
    later b (inl f) = sooner (came_from keys vs b.more word w b.first k y f)
    later b (inr f) = inr (inr f)

-- a key that has a value is no later word's
no_later : (keys : List Key) (vs end : Values) (ws : List (List ℕ)) (k : Key) (y : Value) → value_at vs k ≡ Some y → with_fields keys vs ws ≡ Ok end → Lacks keys ws k
no_later keys vs end [] k y h e = tt
no_later keys vs end (word ∷ others) k y h e =
    let b = begun keys vs end word others e in
    let s = b.first in (
      λ (f : field_key keys word ≡ Some k).
          let keyed : field_key keys word ≡ Some s.key = s.writes.keyed in
          let same : s.key ≡ k = cc in
          let a : value_at vs k ≡ None = ap (value_at vs) (sym same) ∙ s.fresh in
          cc,
      no_later keys b.more end others k y (kept_after keys vs b.more word s k y h) b.rest,
    )

once : (keys : List Key) (vs end : Values) (ws : List (List ℕ)) → Whole vs → with_fields keys vs ws ≡ Ok end → EachOnce keys ws
once keys vs end [] w e = tt
once keys vs end (word ∷ others) w e =
    let b = begun keys vs end word others e in
    let s = b.first in
    let there : value_at b.more s.key ≡ Some s.x = there_after keys vs b.more word w s in (
      λ (k : Key) (f : field_key keys word ≡ Some k).
          let keyed : field_key keys word ≡ Some s.key = s.writes.keyed in
          let same : s.key ≡ k = cc in
          subst (λ (l : Key). Lacks keys others l) same (no_later keys b.more end others s.key s.x there b.rest),
      once keys b.more end others (whole_after keys vs b.more word w s) b.rest,
    )

pub none_yet : (k : Key) → value_at no_values k ≡ None
none_yet k = get_or-replicate (length all_keys) (place k) None None (place_within k)

-- what the words of a line's fields come to
pub fields_hold : (keys : List Key) (ws : List (List ℕ)) (vs : Values) → with_fields keys no_values ws ≡ Ok vs → FieldsHold keys ws vs
fields_hold keys ws vs e =
    let whole : Whole no_values = refl in
    record {
      kept = all_kept keys no_values vs ws whole e;
      no_others = λ k x h. go k x (came keys no_values vs ws whole e k x h);
      once = once keys no_values vs ws whole e;
    }
  where
    go : (k : Key) (x : Value) → (value_at no_values k ≡ Some x) ⊎ Written keys ws k x → Written keys ws k x
    go k x (inl f) =
        let n : value_at no_values k ≡ None = none_yet k in
        absurd cc
    go k x (inr f) = f
