-- The keys of a sheet's fields: their names, what kind of number each takes, and which may be left out.
use Rattle.std.specs.Prelude.{◌≡◌, ℕ, Bool, true, false, List, [], ◌∷◌, Some, None, codes, Option, ◌≢◌}
use Rattle.std.specs.List.{find}
use Rattle.std.specs.Str.{bytes_eq}
use Rattle.sheet.specs.declared.key.Key.{Key}
use Rattle.sheet.specs.declared.key.Key.TheVariants.{Orders, Trades, Contract, Limit, Account, Amount, Underlying, LastDay, Lower, Settlement, Upper, W, R, Kind, First, Second, Participant, Taxpayer, Instrument, Direction, OrderType, Price, Size, Addressee, Reference, Expiry, Order, Date, Number}
use Rattle.sheet.specs.declared.number_kind.NumberKind.{NumberKind}
use Rattle.sheet.specs.declared.number_kind.NumberKind.TheVariants.{Unsigned, Signed, Long}

-- how a key is written
abbrev pub key_name : Key → List ℕ
key_name Orders = codes "orders"
key_name Trades = codes "trades"
key_name Contract = codes "contract"
key_name Limit = codes "limit"
key_name Account = codes "account"
key_name Amount = codes "amount"
key_name Underlying = codes "underlying"
key_name LastDay = codes "last-day"
key_name Lower = codes "lower"
key_name Settlement = codes "settlement"
key_name Upper = codes "upper"
key_name W = codes "w"
key_name R = codes "r"
key_name Kind = codes "kind"
key_name First = codes "first"
key_name Second = codes "second"
key_name Participant = codes "participant"
key_name Taxpayer = codes "taxpayer"
key_name Instrument = codes "instrument"
key_name Direction = codes "direction"
key_name OrderType = codes "type"
key_name Price = codes "price"
key_name Size = codes "size"
key_name Addressee = codes "addressee"
key_name Reference = codes "reference"
key_name Expiry = codes "expiry"
key_name Order = codes "order"
key_name Date = codes "date"
key_name Number = codes "number"

-- the keys, in the order of their places
abbrev pub all_keys : List Key
all_keys =
    Orders ∷ Trades ∷ Contract ∷ Limit ∷ Account ∷ Amount ∷ Underlying ∷ LastDay ∷ Lower ∷ Settlement ∷ Upper ∷ W ∷ R ∷ Kind ∷ First ∷ Second ∷ Participant ∷ Taxpayer ∷ Instrument ∷ Direction ∷ OrderType ∷ Price ∷ Size ∷ Addressee ∷ Reference ∷ Expiry ∷ Order ∷ Date ∷ Number ∷ []

-- a key's place among them
abbrev pub place : Key → ℕ
place Orders = 0
place Trades = 1
place Contract = 2
place Limit = 3
place Account = 4
place Amount = 5
place Underlying = 6
place LastDay = 7
place Lower = 8
place Settlement = 9
place Upper = 10
place W = 11
place R = 12
place Kind = 13
place First = 14
place Second = 15
place Participant = 16
place Taxpayer = 17
place Instrument = 18
place Direction = 19
place OrderType = 20
place Price = 21
place Size = 22
place Addressee = 23
place Reference = 24
place Expiry = 25
place Order = 26
place Date = 27
place Number = 28

-- prices may be negative, and money and the host's places are counted in 64 bits
abbrev pub key_kind : Key → NumberKind
key_kind Orders = Long
key_kind Trades = Long
key_kind Amount = Long
key_kind Lower = Signed
key_kind Settlement = Signed
key_kind Upper = Signed
key_kind Price = Signed
key_kind key = Unsigned

-- the keys that an entry needs wherever it takes them; the others may be left out
abbrev pub needed : Key → Bool
needed Second = false
needed Addressee = false
needed Reference = false
needed Expiry = false
needed key = true

-- the first of these keys that is written so
abbrev pub key_among : List Key → List ℕ → Option Key
key_among keys text = find (λ key. bytes_eq (key_name key) text) keys

-- What looking a name up answers: the key that has it, or nothing where no key has it.
abbrev pub KeyOf : List ℕ → Option Key → Type 0
KeyOf text (Some key) = key_name key ≡ text
KeyOf text None = (key : Key) → key_name key ≢ text
