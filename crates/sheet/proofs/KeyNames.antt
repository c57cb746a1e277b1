-- Every key is found by its name.
use Rattle.std.proofs.Common.{◌≡◌, ℕ, zero, suc, ◌<◌, Bool, true, false, cond, List, [], ◌∷◌, length, get_or, Some, None, Option, sym, refl, ap, ◌∙◌, arith, lit<}
use Rattle.std.proofs.lemmas.Slice.Eq.{bytes_eq-Decides}
use Rattle.std.specs.Str.{bytes_eq}
use Rattle.sheet.specs.declared.key.Key.{Key}
use Rattle.sheet.specs.declared.key.Key.TheVariants.{Orders, Trades, Contract, Limit, Account, Amount, Underlying, LastDay, Lower, Settlement, Upper, W, R, Kind, First, Second, Participant, Taxpayer, Instrument, Direction, OrderType, Price, Size, Addressee, Reference, Expiry, Order, Date, Number}
use Rattle.std.specs.List.{find}
use Rattle.sheet.specs.Keys.{key_name, all_keys, place, key_among, KeyOf}

-- what is found passes
found_passes : {X : Type 0} (p : X → Bool) (xs : List X) (x : X) → find p xs ≡ Some x → p x ≡ true
found_passes p [] x e = absurd cc
found_passes p (y ∷ ys) x e = go (p y) refl (found_passes p ys x) e
  where
    go : (t : Bool) → p y ≡ t → (find p ys ≡ Some x → p x ≡ true) → cond t (Some y) (find p ys) ≡ Some x → p x ≡ true
    go true h ih f = let same : y ≡ x = cc in ap p (sym same) ∙ h
    go false h ih f = ih f

-- where nothing is found, none passes
none_passes : {X : Type 0} (p : X → Bool) (xs : List X) (i : ℕ) (d : X) → i < length xs → find p xs ≡ None → p (get_or xs i d) ≡ false
none_passes p [] i d h e = absurd (omega arith)
none_passes p (y ∷ ys) i d h e = go (p y) i refl (λ (j : ℕ) (k : j < length ys). none_passes p ys j d k) h e
  where
    go : (t : Bool) (i : ℕ) → p y ≡ t → ((j : ℕ) → j < length ys → find p ys ≡ None → p (get_or ys j d) ≡ false) → i < suc (length ys)
        → cond t (Some y) (find p ys) ≡ None → p (get_or (y ∷ ys) i d) ≡ false
    go true j f ih k g = absurd cc
    go false zero f ih k g = f
    go false (suc j) f ih k g = ih j (omega arith) g

-- each key stands at its place
pub at_place : (key : Key) → get_or all_keys (place key) Orders ≡ key
at_place Orders = refl
at_place Trades = refl
at_place Contract = refl
at_place Limit = refl
at_place Account = refl
at_place Amount = refl
at_place Underlying = refl
at_place LastDay = refl
at_place Lower = refl
at_place Settlement = refl
at_place Upper = refl
at_place W = refl
at_place R = refl
at_place Kind = refl
at_place First = refl
at_place Second = refl
at_place Participant = refl
at_place Taxpayer = refl
at_place Instrument = refl
at_place Direction = refl
at_place OrderType = refl
at_place Price = refl
at_place Size = refl
at_place Addressee = refl
at_place Reference = refl
at_place Expiry = refl
at_place Order = refl
at_place Date = refl
at_place Number = refl

pub place_within : (key : Key) → place key < length all_keys
place_within Orders = lit< tt
place_within Trades = lit< tt
place_within Contract = lit< tt
place_within Limit = lit< tt
place_within Account = lit< tt
place_within Amount = lit< tt
place_within Underlying = lit< tt
place_within LastDay = lit< tt
place_within Lower = lit< tt
place_within Settlement = lit< tt
place_within Upper = lit< tt
place_within W = lit< tt
place_within R = lit< tt
place_within Kind = lit< tt
place_within First = lit< tt
place_within Second = lit< tt
place_within Participant = lit< tt
place_within Taxpayer = lit< tt
place_within Instrument = lit< tt
place_within Direction = lit< tt
place_within OrderType = lit< tt
place_within Price = lit< tt
place_within Size = lit< tt
place_within Addressee = lit< tt
place_within Reference = lit< tt
place_within Expiry = lit< tt
place_within Order = lit< tt
place_within Date = lit< tt
place_within Number = lit< tt

pub key_read : (text : List ℕ) (r : Option Key) → r ≡ key_among all_keys text → KeyOf text r
key_read text (Some key) e = (bytes_eq-Decides (key_name key) text).0 (found_passes (λ k. bytes_eq (key_name k) text) all_keys key (sym e))
key_read text None e = λ key same.
    let test : Key → Bool = λ k. bytes_eq (key_name k) text in
    let no_one : test key ≡ false = ap test (sym (at_place key)) ∙ none_passes test all_keys (place key) Orders (place_within key) (sym e) in
    let that_one : test key ≡ true = (bytes_eq-Decides (key_name key) text).1 same in
    cc
