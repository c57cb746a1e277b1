-- Every name is known by its words.
use Rattle.std.proofs.Common.{◌≡◌, ℕ, false, List, [], ◌∷◌, ◌++◌, Some, None, Ok, codes, Option, refl, ap, ◌∙◌}
use Rattle.std.specs.Option.{option_map, option_or}
use Rattle.sheet.specs.declared.name.Name.{Name}
use Rattle.sheet.specs.declared.name.Name.TheVariants.{Memory, Lots, Pledge, Margin, ListContract, ListInstrument, AdmitAccount, Resume, Suspend, ShowContract, ShowInstrument, ShowAccount, ShowPosition, ShowMoney, ShowOrder, ShowTrade, ShowMarket}
use Rattle.sheet.specs.Entries.{entry_with, remark, line_of_words}
use Rattle.sheet.specs.Faults.{and_then}
use Rattle.sheet.specs.Laws.{NamesAreKnown}
use Rattle.sheet.specs.Names.{title, all_names, after, name_among}
use Rattle.sheet.specs.Words.{words_from, words}

-- the words of a name, one by one
abbrev parts : Name → List (List ℕ)
parts Memory = codes "memory" ∷ []
parts Lots = codes "lots" ∷ []
parts Pledge = codes "pledge" ∷ []
parts Margin = codes "margin" ∷ []
parts ListContract = codes "list" ∷ codes "contract" ∷ []
parts ListInstrument = codes "list" ∷ codes "instrument" ∷ []
parts AdmitAccount = codes "admit" ∷ codes "account" ∷ []
parts Resume = codes "resume" ∷ []
parts Suspend = codes "suspend" ∷ []
parts ShowContract = codes "show" ∷ codes "contract" ∷ []
parts ShowInstrument = codes "show" ∷ codes "instrument" ∷ []
parts ShowAccount = codes "show" ∷ codes "account" ∷ []
parts ShowPosition = codes "show" ∷ codes "position" ∷ []
parts ShowMoney = codes "show" ∷ codes "money" ∷ []
parts ShowOrder = codes "show" ∷ codes "order" ∷ []
parts ShowTrade = codes "show" ∷ codes "trade" ∷ []
parts ShowMarket = codes "show" ∷ codes "market" ∷ []

parts_are : (name : Name) → words (title name) ≡ parts name
unfolding words_from
parts_are Memory = refl
parts_are Lots = refl
parts_are Pledge = refl
parts_are Margin = refl
parts_are ListContract = refl
parts_are ListInstrument = refl
parts_are AdmitAccount = refl
parts_are Resume = refl
parts_are Suspend = refl
parts_are ShowContract = refl
parts_are ShowInstrument = refl
parts_are ShowAccount = refl
parts_are ShowPosition = refl
parts_are ShowMoney = refl
parts_are ShowOrder = refl
parts_are ShowTrade = refl
parts_are ShowMarket = refl

-- the same search over the words one by one
part_among : List Name → List (List ℕ) → Option (Name × List (List ℕ))
part_among [] ws = None
part_among (n ∷ ns) ws = option_or (option_map {U = Name × List (List ℕ)} (λ rest. (n, rest)) (after (parts n) ws)) (part_among ns ws)

same_search : (ns : List Name) (ws : List (List ℕ)) → name_among ns ws ≡ part_among ns ws
unfolding name_among part_among
same_search [] ws = refl
same_search (n ∷ ns) ws = rw (parts_are n, same_search ns ws)

found : (name : Name) (fields : List (List ℕ)) → part_among all_names (parts name ++ fields) ≡ Some (name, fields)
unfolding part_among after
found Memory fields = refl
found Lots fields = refl
found Pledge fields = refl
found Margin fields = refl
found ListContract fields = refl
found ListInstrument fields = refl
found AdmitAccount fields = refl
found Resume fields = refl
found Suspend fields = refl
found ShowContract fields = refl
found ShowInstrument fields = refl
found ShowAccount fields = refl
found ShowPosition fields = refl
found ShowMoney fields = refl
found ShowOrder fields = refl
found ShowTrade fields = refl
found ShowMarket fields = refl

known : (name : Name) (fields : List (List ℕ)) → name_among all_names (parts name ++ fields) ≡ Some (name, fields)
known name fields = same_search all_names (parts name ++ fields) ∙ found name fields

-- a line of a known name's words is no remark
of_name : (w : List ℕ) (others : List (List ℕ)) (name : Name) (fields : List (List ℕ)) → remark w ≡ false → name_among all_names (w ∷ others) ≡ Some (name, fields)
    → line_of_words (w ∷ others) ≡ and_then (entry_with name fields) (λ e. Ok (Some e))
of_name w others name fields h e = rw (h, e)

by_words : (name : Name) (fields : List (List ℕ)) → line_of_words (parts name ++ fields) ≡ and_then (entry_with name fields) (λ e. Ok (Some e))
by_words Memory fields = of_name (codes "memory") (fields) Memory fields refl (known Memory fields)
by_words Lots fields = of_name (codes "lots") (fields) Lots fields refl (known Lots fields)
by_words Pledge fields = of_name (codes "pledge") (fields) Pledge fields refl (known Pledge fields)
by_words Margin fields = of_name (codes "margin") (fields) Margin fields refl (known Margin fields)
by_words ListContract fields = of_name (codes "list") (codes "contract" ∷ fields) ListContract fields refl (known ListContract fields)
by_words ListInstrument fields = of_name (codes "list") (codes "instrument" ∷ fields) ListInstrument fields refl (known ListInstrument fields)
by_words AdmitAccount fields = of_name (codes "admit") (codes "account" ∷ fields) AdmitAccount fields refl (known AdmitAccount fields)
by_words Resume fields = of_name (codes "resume") (fields) Resume fields refl (known Resume fields)
by_words Suspend fields = of_name (codes "suspend") (fields) Suspend fields refl (known Suspend fields)
by_words ShowContract fields = of_name (codes "show") (codes "contract" ∷ fields) ShowContract fields refl (known ShowContract fields)
by_words ShowInstrument fields = of_name (codes "show") (codes "instrument" ∷ fields) ShowInstrument fields refl (known ShowInstrument fields)
by_words ShowAccount fields = of_name (codes "show") (codes "account" ∷ fields) ShowAccount fields refl (known ShowAccount fields)
by_words ShowPosition fields = of_name (codes "show") (codes "position" ∷ fields) ShowPosition fields refl (known ShowPosition fields)
by_words ShowMoney fields = of_name (codes "show") (codes "money" ∷ fields) ShowMoney fields refl (known ShowMoney fields)
by_words ShowOrder fields = of_name (codes "show") (codes "order" ∷ fields) ShowOrder fields refl (known ShowOrder fields)
by_words ShowTrade fields = of_name (codes "show") (codes "trade" ∷ fields) ShowTrade fields refl (known ShowTrade fields)
by_words ShowMarket fields = of_name (codes "show") (codes "market" ∷ fields) ShowMarket fields refl (known ShowMarket fields)

pub names_are_known : NamesAreKnown
names_are_known name line fields e =
    ap line_of_words (e ∙ ap (λ (ts : List (List ℕ)). ts ++ fields) (parts_are name)) ∙ by_words name fields
