-- A register that a call leaves alone keeps its unused places.
use Rattle.std.proofs.Common.{ℕ, drop, length, sym, ap}
use Rattle.std.proofs.Math.Nat.{sub_self}
use Rattle.records.specs.Registers.{listed, unused}
use Rattle.records.specs.declared.register.Register.{Register}
use Rattle.market.specs.Views.{KeepsUnused}

pub keeps_itself : {T : Type 0} (r : Register T) → KeepsUnused r r
keeps_itself r = sym (ap (λ (n : ℕ). drop n (unused r)) (sub_self (length (listed r))))
