-- The line that is printed of a line that is no entry.
use Rattle.std.specs.Prelude.{ℕ, cond, ◌&&◌, List, ◌++◌, map, codes, decimal, nat_lt}
use Rattle.sheet.specs.Faults.{LineFault}
use Rattle.sheet.specs.Keys.{key_name}
use Rattle.sheet.specs.declared.fault.Fault.TheVariants.{UnknownName, UnknownKey, Repeated, Missing, NotANumber, TooLate, TwoCentres, OutOfRange}

-- a visible sign of ASCII is itself, any other byte a question mark
abbrev pub printable : ℕ → ℕ
printable byte = cond (nat_lt 32 byte && nat_lt byte 127) byte 63

abbrev pub fault_text : LineFault → List ℕ
fault_text (UnknownName word) = codes "unknown entry `" ++ (map printable word ++ codes "`")
fault_text (UnknownKey word) = codes "unknown key `" ++ (map printable word ++ codes "`")
fault_text (Repeated key) = codes "key `" ++ (key_name key ++ codes "` twice")
fault_text (Missing key) = codes "missing key `" ++ (key_name key ++ codes "`")
fault_text (NotANumber key) = codes "no such number for `" ++ (key_name key ++ codes "`")
fault_text TooLate = codes "set-up after the first call or question"
fault_text TwoCentres = codes "set-up of two clearing centres"
fault_text (OutOfRange key) = codes "`" ++ (key_name key ++ codes "` out of range")

abbrev pub fault_line : ℕ → LineFault → List ℕ
fault_line number fault = decimal number ++ (codes ": unreadable: " ++ (fault_text fault ++ codes "\n"))
