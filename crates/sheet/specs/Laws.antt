-- What a line holds from which an entry is read.
use Rattle.std.specs.Prelude.{◌≡◌, ℕ, ◌⊎◌, List, [], ◌∷◌, ◌++◌, Some, None, Ok, ◌≢◌}
use Rattle.sheet.specs.declared.entry.Entry.{Entry}
use Rattle.sheet.specs.declared.key.Key.{Key}
use Rattle.sheet.specs.declared.name.Name.{Name}
use Rattle.sheet.specs.declared.value.Value.{Value}
use Rattle.sheet.specs.declared.values.Values.{Values}
use Rattle.sheet.specs.Entries.{entry_of, entry_with, line_read}
use Rattle.sheet.specs.Faults.{and_then}
use Rattle.sheet.specs.Fields.{field_key, field_text, first_missing}
use Rattle.sheet.specs.Keys.{key_kind}
use Rattle.sheet.specs.Names.{title, keys_of}
use Rattle.sheet.specs.Numbers.{value_of}
use Rattle.sheet.specs.Values.{value_at}
use Rattle.sheet.specs.Words.{words}

-- a word is the field of this key, and writes this value
pub record Writes (keys : List Key) (key : Key) (x : Value) (word : List ℕ) : Type 0 where
  pub keyed : field_key keys word ≡ Some key
  pub number : value_of (key_kind key) (field_text word) ≡ Some x

-- one of the words does
abbrev pub Written : List Key → List (List ℕ) → Key → Value → Type 0
Written keys [] key x = ⊥
Written keys (word ∷ others) key x = Writes keys key x word ⊎ Written keys others key x

-- each of the words is the field of some key, and the values have what it writes
abbrev pub AllKept : List Key → List (List ℕ) → Values → Type 0
AllKept keys [] vs = Unit {0}
AllKept keys (word ∷ others) vs =
    ((key : Key) × (x : Value) × Writes keys key x word × (value_at vs key ≡ Some x)) × AllKept keys others vs

-- none of the words is the field of this key
abbrev pub Lacks : List Key → List (List ℕ) → Key → Type 0
Lacks keys [] key = Unit {0}
Lacks keys (word ∷ others) key = (field_key keys word ≢ Some key) × Lacks keys others key

-- no two of the words are fields of one key
abbrev pub EachOnce : List Key → List (List ℕ) → Type 0
EachOnce keys [] = Unit {0}
EachOnce keys (word ∷ others) = ((key : Key) → field_key keys word ≡ Some key → Lacks keys others key) × EachOnce keys others

-- the words are fields of these keys, each at most once, and the values are those that they write, and no others
pub record FieldsHold (keys : List Key) (ws : List (List ℕ)) (vs : Values) : Type 0 where
  pub kept : AllKept keys ws vs
  pub no_others : (key : Key) (x : Value) → value_at vs key ≡ Some x → Written keys ws key x
  pub once : EachOnce keys ws

-- a line that says an entry: the words of the entry's name, and then its fields, of which no needed one is missing
pub record Says (line : List ℕ) (e : Entry) : Type 0 where
  pub name : Name
  pub fields : List (List ℕ)
  pub values : Values
  pub titled : words line ≡ words (title name) ++ fields
  pub hold : FieldsHold (keys_of name) fields values
  pub complete : first_missing (keys_of name) values ≡ None
  pub made : e ≡ entry_of name values

-- An entry is read from just the lines that say it.
abbrev pub EntriesAreSaid : Type 0
EntriesAreSaid =
    (line : List ℕ) (e : Entry) → (line_read line ≡ Ok (Some e) → Says line e) × (Says line e → line_read line ≡ Ok (Some e))

-- A line that begins with the words of a name is an entry of that name, or has a fault in the words that follow: no name hides
-- another, and none is taken for a remark.
abbrev pub NamesAreKnown : Type 0
NamesAreKnown =
    (name : Name) (line : List ℕ) (fields : List (List ℕ)) → words line ≡ words (title name) ++ fields
    → line_read line ≡ and_then (entry_with name fields) (λ e. Ok (Some e))
