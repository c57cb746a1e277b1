-- Faults, told with the bytes of the piece of the line that they name.
use Rattle.std.specs.Prelude.{ℕ, List, Ok, Err, Result}
use Rattle.std.specs.Borrow.{Bor}
use Rattle.sheet.specs.declared.fault.Fault.{Fault}
use Rattle.sheet.specs.declared.fault.Fault.TheVariants.{UnknownName, UnknownKey, Repeated, Missing, NotANumber, TooLate, TwoCentres, OutOfRange}

-- a fault in a line
abbrev pub LineFault : Type 0
LineFault = Fault (List ℕ)

-- the bytes in place of a reference to them
abbrev pub fault_told : Fault (Bor (List ℕ)) → LineFault
fault_told (UnknownName piece) = UnknownName piece.now
fault_told (UnknownKey piece) = UnknownKey piece.now
fault_told (Repeated key) = Repeated key
fault_told (Missing key) = Missing key
fault_told (NotANumber key) = NotANumber key
fault_told TooLate = TooLate
fault_told TwoCentres = TwoCentres
fault_told (OutOfRange key) = OutOfRange key

abbrev pub told : {X : Type 0} → Result X (Fault (Bor (List ℕ))) → Result X LineFault
told (Ok x) = Ok x
told (Err fault) = Err (fault_told fault)

-- goes on with what was made, if there is no fault
abbrev pub and_then : {X Y : Type 0} → Result X LineFault → (X → Result Y LineFault) → Result Y LineFault
and_then (Ok x) f = f x
and_then (Err fault) f = Err fault
