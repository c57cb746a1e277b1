-- A line that says an entry is read as that entry.
use Rattle.std.proofs.Common.{◌≡◌, ℕ, ◌⊎◌, List, [], ◌∷◌, Some, None, Ok, Option, Result, sym, refl, ap, ◌∙◌, subst, inl, inr}
use Rattle.sheet.specs.declared.entry.Entry.{Entry}
use Rattle.sheet.specs.declared.key.Key.{Key}
use Rattle.sheet.specs.declared.key.Key.TheVariants as key
use Rattle.sheet.specs.declared.name.Name.{Name}
use Rattle.sheet.specs.declared.name.Name.TheVariants.{Memory, Lots, Pledge, Margin, ListContract, ListInstrument, AdmitAccount, Resume, Suspend, ShowContract, ShowInstrument, ShowAccount, ShowPosition, ShowMoney, ShowOrder, ShowTrade, ShowMarket}
use Rattle.sheet.specs.declared.value.Value.{Value}
use Rattle.sheet.specs.declared.values.Values.{Values}
use Rattle.sheet.specs.Entries.{entry_of, entry_unless, entry_with, line_read}
use Rattle.sheet.specs.Faults.{LineFault, and_then}
use Rattle.sheet.specs.Fields.{field_key, field_text, with_field, with_fields, first_missing}
use Rattle.sheet.specs.Keys.{key_kind}
use Rattle.sheet.specs.Laws.{Writes, Written, AllKept, Lacks, EachOnce, FieldsHold, Says}
use Rattle.sheet.specs.Names.{keys_of}
use Rattle.sheet.specs.Numbers.{value_of}
use Rattle.sheet.specs.Values.{no_values, value_at, with_value}
use Rattle.sheet.proofs.Kept.{after, fields_hold, none_yet}
use Rattle.sheet.proofs.Known.{names_are_known}

-- none of the words' keys has a value yet
abbrev Fresh : List Key → Values → List (List ℕ) → Type 0
Fresh keys vs [] = Unit {0}
Fresh keys vs (word ∷ others) = ((k : Key) → field_key keys word ≡ Some k → value_at vs k ≡ None) × Fresh keys vs others

-- a word of a key that has no value is read
entered : (keys : List Key) (vs : Values) (word : List ℕ) (k : Key) (x : Value) → Writes keys k x word → value_at vs k ≡ None
    → with_field keys vs word ≡ Ok (with_value vs k x)
entered keys vs word k x w f = rw (w.keyed, f, w.number)

-- the other words' keys have none after it either
still_fresh : (keys : List Key) (vs : Values) (word : List ℕ) (k : Key) (x : Value) → Writes keys k x word → value_at vs k ≡ None
    → (ws : List (List ℕ)) → Lacks keys ws k → Fresh keys vs ws → Fresh keys (with_value vs k x) ws
still_fresh keys vs word k x w f [] l h = tt
still_fresh keys vs word k x w f (other ∷ ws) l h = (
  λ (j : Key) (e : field_key keys other ≡ Some j). go j e (after keys vs (with_value vs k x) word (record { key = k; x = x; writes = w; fresh = f; entered = refl }) j),
  still_fresh keys vs word k x w f ws l.1 h.1,
)
  where
    go : (j : Key) → field_key keys other ≡ Some j → (j ≡ k) ⊎ (value_at (with_value vs k x) j ≡ value_at vs j) → value_at (with_value vs k x) j ≡ None
    go j e (inl same) = absurd (l.0 (e ∙ ap (λ (i : Key). Some i) same))
    go j e (inr same) = same ∙ h.0 j e

-- words of different keys are all read
all_read : (keys : List Key) (vs target : Values) (ws : List (List ℕ)) → AllKept keys ws target → EachOnce keys ws → Fresh keys vs ws
    → (end : Values) × (with_fields keys vs ws ≡ Ok end)
unfolding with_fields
all_read keys vs target [] a o f = (vs, refl)
all_read keys vs target (word ∷ others) a o f =
    let k : Key = a.0.0 in
    let x : Value = a.0.1 in
    let w : Writes keys k x word = a.0.2 in
    let none : value_at vs k ≡ None = f.0 k w.keyed in
    let rest = all_read keys (with_value vs k x) target others a.1 o.1 (still_fresh keys vs word k x w none others (o.0 k w.keyed) f.1) in
    (rest.0, ap (λ (r : Result Values LineFault). and_then r (λ more. with_fields keys more others)) (entered keys vs word k x w none) ∙ rest.1)

-- a value that a word writes is kept
kept_if_written : (keys : List Key) (ws : List (List ℕ)) (vs : Values) (k : Key) (x : Value) → AllKept keys ws vs → Written keys ws k x → value_at vs k ≡ Some x
kept_if_written keys [] vs k x a w = absurd w
kept_if_written keys (word ∷ others) vs k x a (inl w) =
    let keyed : field_key keys word ≡ Some k = w.keyed in
    let number : value_of (key_kind k) (field_text word) ≡ Some x = w.number in
    let keyed' : field_key keys word ≡ Some a.0.0 = a.0.2.keyed in
    let number' : value_of (key_kind a.0.0) (field_text word) ≡ Some a.0.1 = a.0.2.number in
    let kept : value_at vs a.0.0 ≡ Some a.0.1 = a.0.3 in
    let same : a.0.0 ≡ k = cc in
    let again : value_of (key_kind k) (field_text word) ≡ Some a.0.1 = subst (λ (i : Key). value_of (key_kind i) (field_text word) ≡ Some a.0.1) same number' in
    let one : a.0.1 ≡ x = cc in
    subst (λ (i : Key). value_at vs i ≡ Some x) same (kept ∙ ap (λ (y : Value). Some y) one)
kept_if_written keys (word ∷ others) vs k x a (inr w) = kept_if_written keys others vs k x a.1 w

-- words have one meaning
same_values : (keys : List Key) (ws : List (List ℕ)) (vs us : Values) → FieldsHold keys ws vs → FieldsHold keys ws us → (k : Key) → value_at vs k ≡ value_at us k
same_values keys ws vs us p q k = go (value_at vs k) refl (value_at us k) refl
  where
    go : (o : Option Value) → value_at vs k ≡ o → (m : Option Value) → value_at us k ≡ m → o ≡ m
    go None e None f = refl
    go (Some x) e m f = sym (kept_if_written keys ws us k x q.kept (p.no_others k x e)) ∙ f
    go None e (Some y) f = sym e ∙ kept_if_written keys ws vs k y p.kept (q.no_others k y f)

same_first : (vs us : Values) (keys : List Key) → ((k : Key) → value_at vs k ≡ value_at us k) → first_missing keys vs ≡ first_missing keys us
same_first vs us [] h = refl
same_first vs us (k ∷ ks) h = rw (h k, same_first vs us ks h)

same_entry : (name : Name) (vs us : Values) → ((k : Key) → value_at vs k ≡ value_at us k) → entry_of name vs ≡ entry_of name us
same_entry Memory vs us h = rw (h key.Orders, h key.Trades)
same_entry Lots vs us h = rw (h key.Contract, h key.Limit)
same_entry Pledge vs us h = rw (h key.Account, h key.Amount)
same_entry Margin vs us h = rw (h key.Contract, h key.Amount)
same_entry ListContract vs us h = rw (h key.Underlying, h key.LastDay, h key.Lower, h key.Settlement, h key.Upper, h key.W, h key.R)
same_entry ListInstrument vs us h = rw (h key.Kind, h key.First, h key.Second, h key.Lower, h key.Upper)
same_entry AdmitAccount vs us h = rw (h key.Participant, h key.Taxpayer)
same_entry Resume vs us h = refl
same_entry Suspend vs us h = refl
same_entry ShowContract vs us h = rw (h key.Number)
same_entry ShowInstrument vs us h = rw (h key.Number)
same_entry ShowAccount vs us h = rw (h key.Number)
same_entry ShowPosition vs us h = rw (h key.Account, h key.Contract)
same_entry ShowMoney vs us h = rw (h key.Account)
same_entry ShowOrder vs us h = rw (h key.Number)
same_entry ShowTrade vs us h = rw (h key.Number)
same_entry ShowMarket vs us h = refl

all_fresh : (keys : List Key) (ws : List (List ℕ)) → Fresh keys no_values ws
all_fresh keys [] = tt
all_fresh keys (word ∷ others) = (λ k e. none_yet k, all_fresh keys others)

pub heard : (line : List ℕ) (e : Entry) → Says line e → line_read line ≡ Ok (Some e)
heard line e s =
    let keys : List Key = keys_of s.name in
    let r = all_read keys no_values s.values s.fields s.hold.kept s.hold.once (all_fresh keys s.fields) in
    let same : (k : Key) → value_at r.0 k ≡ value_at s.values k = same_values keys s.fields r.0 s.values (fields_hold keys s.fields r.0 r.1) s.hold in
    let made : entry_of s.name r.0 ≡ e = same_entry s.name r.0 s.values same ∙ sym s.made in
    let complete : first_missing keys r.0 ≡ None = same_first r.0 s.values keys same ∙ s.complete in
    let with_all : entry_with s.name s.fields ≡ entry_unless s.name r.0 (first_missing keys r.0) =
    ap (λ (t : Result Values LineFault). and_then t (λ vs. entry_unless s.name vs (first_missing keys vs))) r.1 in
    let ok : entry_with s.name s.fields ≡ Ok e = with_all ∙ (ap (entry_unless s.name r.0) complete ∙ ap (λ (x : Entry). Ok x) made) in
    names_are_known s.name line s.fields s.titled ∙ ap (λ (t : Result Entry LineFault). and_then t (λ x. Ok (Some x))) ok
