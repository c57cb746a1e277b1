-- The grounds under which a call is turned away: the number of each, and its words for a person.
use Rattle.std.specs.Prelude.{ℕ, List, codes}
use Rattle.market.specs.declared.refusal.Refusal.{Refusal}
use Rattle.market.specs.declared.refusal.Refusal.TheVariants.{WrongPhase, Unknown, Inadmissible, PastLastDay, OutOfBounds, Full, OverLimit, OwnOrder, AnotherAccount, NotActive}

abbrev pub ground : Refusal → ℕ
ground WrongPhase = 1
ground Unknown = 2
ground Inadmissible = 3
ground PastLastDay = 4
ground OutOfBounds = 5
ground Full = 6
ground (OverLimit contract) = 7
ground (OwnOrder order) = 8
ground AnotherAccount = 9
ground NotActive = 10

abbrev pub words : Refusal → List ℕ
words WrongPhase = codes "not in this phase"
words Unknown = codes "unknown"
words Inadmissible = codes "out of range or not admitted"
words PastLastDay = codes "past the last trading day"
words OutOfBounds = codes "price outside the bounds"
words Full = codes "full"
words (OverLimit contract) = codes "over the limit"
words (OwnOrder order) = codes "own order"
words AnotherAccount = codes "another account's order"
words NotActive = codes "not active"
