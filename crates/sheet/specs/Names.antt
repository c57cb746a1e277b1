-- The entries of a sheet: the name of each and the keys that it takes.
use Rattle.std.specs.Prelude.{ℕ, cond, List, [], ◌∷◌, Some, None, codes, Option}
use Rattle.std.specs.Option.{option_map, option_or}
use Rattle.std.specs.Str.{bytes_eq}
use Rattle.sheet.specs.declared.key.Key.{Key}
use Rattle.sheet.specs.declared.key.Key.TheVariants.{Orders, Trades, Contract, Limit, Account, Amount, Underlying, LastDay, Lower, Settlement, Upper, W, R, Kind, First, Second, Participant, Taxpayer, Number}
use Rattle.sheet.specs.declared.name.Name.{Name}
use Rattle.sheet.specs.declared.name.Name.TheVariants.{Memory, Lots, Pledge, Margin, ListContract, ListInstrument, AdmitAccount, Resume, Suspend, ShowContract, ShowInstrument, ShowAccount, ShowPosition, ShowMoney, ShowOrder, ShowTrade, ShowMarket}
use Rattle.sheet.specs.Words.{words}

-- the word or words of a name
abbrev pub title : Name → List ℕ
title Memory = codes "memory"
title Lots = codes "lots"
title Pledge = codes "pledge"
title Margin = codes "margin"
title ListContract = codes "list contract"
title ListInstrument = codes "list instrument"
title AdmitAccount = codes "admit account"
title Resume = codes "resume"
title Suspend = codes "suspend"
title ShowContract = codes "show contract"
title ShowInstrument = codes "show instrument"
title ShowAccount = codes "show account"
title ShowPosition = codes "show position"
title ShowMoney = codes "show money"
title ShowOrder = codes "show order"
title ShowTrade = codes "show trade"
title ShowMarket = codes "show market"

-- the keys that an entry takes, in the order in which a missing one is told
abbrev pub keys_of : Name → List Key
keys_of Memory = Orders ∷ Trades ∷ []
keys_of Lots = Contract ∷ Limit ∷ []
keys_of Pledge = Account ∷ Amount ∷ []
keys_of Margin = Contract ∷ Amount ∷ []
keys_of ListContract = Underlying ∷ LastDay ∷ Lower ∷ Settlement ∷ Upper ∷ W ∷ R ∷ []
keys_of ListInstrument = Kind ∷ First ∷ Second ∷ Lower ∷ Upper ∷ []
keys_of AdmitAccount = Participant ∷ Taxpayer ∷ []
keys_of Resume = []
keys_of Suspend = []
keys_of ShowContract = Number ∷ []
keys_of ShowInstrument = Number ∷ []
keys_of ShowAccount = Number ∷ []
keys_of ShowPosition = Account ∷ Contract ∷ []
keys_of ShowMoney = Account ∷ []
keys_of ShowOrder = Number ∷ []
keys_of ShowTrade = Number ∷ []
keys_of ShowMarket = []

abbrev pub all_names : List Name
all_names =
    Memory ∷ Lots ∷ Pledge ∷ Margin ∷ ListContract ∷ ListInstrument ∷ AdmitAccount ∷ Resume ∷ Suspend ∷ ShowContract ∷ ShowInstrument ∷ ShowAccount ∷ ShowPosition ∷ ShowMoney ∷ ShowOrder ∷ ShowTrade ∷ ShowMarket ∷ []

-- the words behind those of a title, if the words begin with these
unfoldable pub after : List (List ℕ) → List (List ℕ) → Option (List (List ℕ))
after [] ws = Some ws
after (t ∷ ts) [] = None
after (t ∷ ts) (w ∷ ws) = cond (bytes_eq t w) (after ts ws) None

-- the name with the words behind it, if the words begin with it
abbrev pub begun : List (List ℕ) → Name → Option (Name × List (List ℕ))
begun ws name = option_map {U = Name × List (List ℕ)} (λ rest. (name, rest)) (after (words (title name)) ws)

-- the first of these names with which the words begin, with the words behind it
unfoldable pub name_among : List Name → List (List ℕ) → Option (Name × List (List ℕ))
name_among [] ws = None
name_among (n ∷ ns) ws = option_or (begun ws n) (name_among ns ws)
