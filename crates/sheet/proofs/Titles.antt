-- A title looked for at the front of a line's words, and a name among others.
use Rattle.std.proofs.Common.{◌≡◌, ℕ, zero, suc, ◌+◌, ◌<◌, true, false, List, [], ◌∷◌, length, get_or, Some, None, Option, Bor, refl, sym, ap, ◌∙◌, arith}
use Rattle.std.specs.Fn.{Mut, Called}
use Rattle.std.specs.Iterator.Runs.{Run, ItemsMapTo, AllItemsGive, IsFirstToGive}
use Rattle.std.specs.Option.{MatchOption, IfSome, IsSomeAnd, option_map}
use Rattle.std.specs.Bool.{IsTrue}
use Rattle.std.specs.Str.{bytes_eq}
use Rattle.sheet.specs.declared.name.Name.{Name}
use Rattle.sheet.specs.Names.{after, begun, name_among}

-- the title is told to its end
pub told_whole : (ts ws : List (List ℕ)) → ts ≡ [] → after ts ws ≡ Some ws
unfolding after
told_whole ts ws e = rw e

-- the line ends before the title
pub too_short : (t : List ℕ) (ts' ts ws : List (List ℕ)) → ts ≡ t ∷ ts' → ws ≡ [] → after ts ws ≡ None
unfolding after
too_short t ts' ts ws e f = rw (e, f)

pub differs : (t w : List ℕ) (ts' ws' ts ws : List (List ℕ)) → ts ≡ t ∷ ts' → ws ≡ w ∷ ws' → bytes_eq t w ≡ false → after ts ws ≡ None
unfolding after
differs t w ts' ws' ts ws e f g = rw (e, f) (rw g)

pub agrees : (t w : List ℕ) (ts' ws' ts ws : List (List ℕ)) → ts ≡ t ∷ ts' → ws ≡ w ∷ ws' → bytes_eq t w ≡ true → after ts ws ≡ after ts' ws'
unfolding after
agrees t w ts' ws' ts ws e f g = rw (e, f) (rw g)

hit : (n : Name) (ns : List Name) (ws : List (List ℕ)) (z : Name × List (List ℕ)) → begun ws n ≡ Some z → name_among (n ∷ ns) ws ≡ Some z
unfolding name_among
hit n ns ws z e = rw e

miss : (n : Name) (ns : List Name) (ws : List (List ℕ)) → begun ws n ≡ None → name_among (n ∷ ns) ws ≡ name_among ns ws
unfolding name_among
miss n ns ws e = rw e

none_at : (ns : List Name) (ws : List (List ℕ)) → ((k : ℕ) (d : Name) → k < length ns → begun ws (get_or ns k d) ≡ None) → name_among ns ws ≡ None
unfolding name_among
none_at [] ws e = refl
none_at (n ∷ ns) ws e = miss n ns ws (e 0 n (omega arith)) ∙ none_at ns ws (λ k d h. e (suc k) d (omega arith))

first_at : (ns : List Name) (ws : List (List ℕ)) (i : ℕ) (z : Name × List (List ℕ)) → i < length ns → ((d : Name) → begun ws (get_or ns i d) ≡ Some z)
    → ((k : ℕ) (d : Name) → k < i → begun ws (get_or ns k d) ≡ None) → name_among ns ws ≡ Some z
first_at [] ws i z h e m = absurd (omega arith)
first_at (n ∷ ns) ws zero z h e m = hit n ns ws z (e n)
first_at (n ∷ ns) ws (suc i) z h e m = miss n ns ws (m 0 n (omega arith)) ∙ first_at ns ws i z (omega arith) e (λ k d l. m (suc k) d (omega arith))

-- what `find_map` gives over names, where each call gives what begins with its name
module _ {F C : Type 0} (g : Mut F (Bor Name × Unit {0}) (Option C)) (f : F) (w : C → Name × List (List ℕ)) (ws : List (List ℕ))
    (k : (x : Bor Name) (o : Option C) (q : F) → Called g f (x, tt) o q → (q ≡ f) × (option_map w o ≡ begun ws x.now)) where
  gives : (o : Option (Bor Name)) (n : Name) (r : Option C) → option_map (λ y. y.now) o ≡ Some n → IfSome o (λ x. Called g f (x, tt) r f) → option_map w r ≡ begun ws n
  gives None n r e c = absurd cc
  gives (Some x) n r e c = let same : x.now ≡ n = cc in (k x r f c).1 ∙ ap (begun ws) same

  if_some : (o : Option (Bor Name)) (r : Option C) → IsSomeAnd o (λ x. Called g f (x, tt) r f) → IfSome o (λ x. Called g f (x, tt) r f)
  if_some None r c = absurd c
  if_some (Some x) r c = c

  pub found : {S : Type 0} {steps : S → Option (Bor Name) → S → Type 0} (p : Run steps) (ns : List Name) (r : Option C) → ItemsMapTo p (λ y. y.now) ns
      → MatchOption r (IsTrue p.whole × AllItemsGive p g f None) (λ y. (i : ℕ) × (i < p.len) × (p.len ≡ i + 1) × IsFirstToGive p g f (Some y) None i)
      → option_map w r ≡ name_among ns ws
  found p ns None m c = sym (none_at ns ws (λ i d h. sym (gives (p.at i) (get_or ns i d) None (m.2 i d (omega (arith, m.1 c.0))) (c.1 (λ a o q e. (k a.0 o q e).0) i))))
  found p ns (Some y) m c =
      let first = c.3 (λ a o q e. (k a.0 o q e).0) in
      sym (first_at ns ws c.0 (w y) (omega (arith, m.0, c.1))
      (λ d. sym (gives (p.at c.0) (get_or ns c.0 d) (Some y) (m.2 c.0 d c.1) (if_some (p.at c.0) (Some y) first.0)))
      (λ j d h. sym (gives (p.at j) (get_or ns j d) None (m.2 j d (omega (arith, c.1))) (if_some (p.at j) None (first.1 j h)))))
