-- An entry is read from just the lines that say it.
use Rattle.std.proofs.Common.{◌≡◌, ℕ, Bool, true, false, cond, List, [], ◌∷◌, ◌++◌, Some, None, Ok, Err, Option, Result, sym, refl, ap, ◌∙◌}
use Rattle.std.proofs.lemmas.Slice.Eq.{bytes_eq-Decides}
use Rattle.std.specs.Option.{option_map, option_or}
use Rattle.std.specs.Str.{bytes_eq}
use Rattle.sheet.specs.declared.entry.Entry.{Entry}
use Rattle.sheet.specs.declared.key.Key.{Key}
use Rattle.sheet.specs.declared.name.Name.{Name}
use Rattle.sheet.specs.declared.values.Values.{Values}
use Rattle.sheet.specs.Entries.{entry_of, entry_unless, entry_with, entry_named, remark, line_of_words, line_read}
use Rattle.sheet.specs.Faults.{LineFault, and_then}
use Rattle.sheet.specs.Fields.{with_fields, first_missing}
use Rattle.sheet.specs.Laws.{Says, EntriesAreSaid}
use Rattle.sheet.specs.Names.{title, keys_of, all_names, after, name_among}
use Rattle.sheet.specs.Values.{no_values}
use Rattle.sheet.specs.Words.{words}
use Rattle.sheet.proofs.Heard.{heard}
use Rattle.sheet.proofs.Kept.{fields_hold}

-- the words begin with those of the title
begins_with : (ts ws rest : List (List ℕ)) → after ts ws ≡ Some rest → ws ≡ ts ++ rest
unfolding after
begins_with [] ws rest e = let same : ws ≡ rest = cc in same
begins_with (t ∷ ts) [] rest e = absurd cc
begins_with (t ∷ ts) (w ∷ ws) rest e = go (bytes_eq t w) refl (begins_with ts ws rest) e
  where
    go : (b : Bool) → bytes_eq t w ≡ b → (after ts ws ≡ Some rest → ws ≡ ts ++ rest) → cond b (after ts ws) None ≡ Some rest → w ∷ ws ≡ t ∷ (ts ++ rest)
    go true s ih f =
        let front : t ≡ w = (bytes_eq-Decides t w).0 s in
        let back : ws ≡ ts ++ rest = ih f in
        cc
    go false s ih f = absurd cc

named_so : (ns : List Name) (ws : List (List ℕ)) (p : Name × List (List ℕ)) → name_among ns ws ≡ Some p → after (words (title p.0)) ws ≡ Some p.1
unfolding name_among
named_so [] ws p e = absurd cc
named_so (n ∷ ns) ws p e = go (after (words (title n)) ws) refl (named_so ns ws p) e
  where
    go : (o : Option (List (List ℕ))) → after (words (title n)) ws ≡ o → (name_among ns ws ≡ Some p → after (words (title p.0)) ws ≡ Some p.1)
        → option_or (option_map {U = Name × List (List ℕ)} (λ rest. (n, rest)) o) (name_among ns ws) ≡ Some p → after (words (title p.0)) ws ≡ Some p.1
    go None a ih f = ih f
    go (Some rest) a ih f = let same : (n, rest) ≡ p = cc in ap (λ (q : Name × List (List ℕ)). after (words (title q.0)) ws) (sym same) ∙ (a ∙ ap (λ (q : Name × List (List ℕ)). Some q.1) same)

-- how an entry with fields is made
record Made (name : Name) (ws : List (List ℕ)) (e : Entry) : Type 0 where
  values : Values
  read : with_fields (keys_of name) no_values ws ≡ Ok values
  complete : first_missing (keys_of name) values ≡ None
  made : e ≡ entry_of name values

made_of : (name : Name) (ws : List (List ℕ)) (e : Entry) → entry_with name ws ≡ Ok e → Made name ws e
made_of name ws e h = go (with_fields (keys_of name) no_values ws) refl h
  where
    last : (vs : Values) → with_fields (keys_of name) no_values ws ≡ Ok vs → (o : Option Key) → first_missing (keys_of name) vs ≡ o → entry_unless name vs o ≡ Ok e → Made name ws e
    last vs r None m f = let same : entry_of name vs ≡ e = cc in record { values = vs; read = r; complete = m; made = sym same }
    last vs r (Some k) m f = absurd cc

    go : (r : Result Values LineFault) → with_fields (keys_of name) no_values ws ≡ r → and_then r (λ vs. entry_unless name vs (first_missing (keys_of name) vs)) ≡ Ok e → Made name ws e
    go (Ok vs) r f = last vs r (first_missing (keys_of name) vs) refl f
    go (Err fault) r f = absurd cc

unwrap : (r : Result Entry LineFault) (e : Entry) → and_then r (λ x. Ok (Some x)) ≡ Ok (Some e) → r ≡ Ok e
unwrap (Ok x) e h = let same : x ≡ e = cc in ap (λ (y : Entry). Ok y) same
unwrap (Err fault) e h = absurd cc

pub said : (line : List ℕ) (e : Entry) → line_read line ≡ Ok (Some e) → Says line e
said line e h = go (words line) refl h
  where
    finish : (ws : List (List ℕ)) → words line ≡ ws → (p : Name × List (List ℕ)) → name_among all_names ws ≡ Some p → Made p.0 p.1 e → Says line e
    finish ws w p n m =
        record {
          name = p.0;
          fields = p.1;
          values = m.values;
          titled = w ∙ begins_with (words (title p.0)) ws p.1 (named_so all_names ws p n);
          hold = fields_hold (keys_of p.0) p.1 m.values m.read;
          complete = m.complete;
          made = m.made;
        }

    named : (word : List ℕ) (ws : List (List ℕ)) → words line ≡ ws → (o : Option (Name × List (List ℕ))) → name_among all_names ws ≡ o → entry_named word o ≡ Ok (Some e) → Says line e
    named word ws w None n f = absurd cc
    named word ws w (Some p) n f = finish ws w p n (made_of p.0 p.1 e (unwrap (entry_with p.0 p.1) e f))

    worded : (word : List ℕ) (others : List (List ℕ)) → words line ≡ word ∷ others → (t : Bool) → cond t (Ok None) (entry_named word (name_among all_names (word ∷ others))) ≡ Ok (Some e) → Says line e
    worded word others w true f = absurd cc
    worded word others w false f = named word (word ∷ others) w (name_among all_names (word ∷ others)) refl f

    go : (ws : List (List ℕ)) → words line ≡ ws → line_of_words ws ≡ Ok (Some e) → Says line e
    go [] w f = absurd cc
    go (word ∷ others) w f = worded word others w (remark word) f

pub entries_are_said : EntriesAreSaid
entries_are_said line e = (said line e, heard line e)
