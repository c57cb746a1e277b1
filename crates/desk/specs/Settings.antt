-- What the set-up entries of a sheet do.
use Rattle.std.specs.Prelude.{ℕ, Bool, true, false, ◌||◌, replicate, Some, None, Ok, Err, Option, Result, nat_lt}
use Rattle.records.specs.Registers.{replaced}
use Rattle.sheet.specs.Faults.{LineFault, and_then}
use Rattle.sheet.specs.declared.fault.Fault.TheVariants.{TwoCentres, OutOfRange}
use Rattle.sheet.specs.declared.key.Key.TheVariants as key
use Rattle.sheet.specs.declared.set_up.SetUp.{SetUp}
use Rattle.sheet.specs.declared.set_up.SetUp.TheVariants as setting
use Rattle.desk.specs.declared.host.CentreKind.{CentreKind}
use Rattle.desk.specs.declared.host.CentreKind.TheVariants.{Lots, Pledge}
use Rattle.desk.specs.declared.host.Host.{Host}

-- nothing set up: 4,096 places for orders, 8,192 for trades, no centre chosen
abbrev pub unset : Host
unset =
    record {
      order_places = 4096;
      trade_places = 8192;
      centre = None;
      limits = replicate 32 None;
      pledges = replicate 64 None;
      margins = replicate 32 None;
    }

-- a value outside its range is a fault
abbrev pub unless : {X : Type 0} → Bool → LineFault → Result X LineFault → Result X LineFault
unless true fault otherwise = Err fault
unless false fault otherwise = otherwise

-- the other centre is chosen already
abbrev pub other_chosen : CentreKind → Option CentreKind → Bool
other_chosen kind None = false
other_chosen Lots (Some Lots) = false
other_chosen Lots (Some Pledge) = true
other_chosen Pledge (Some Lots) = true
other_chosen Pledge (Some Pledge) = false

-- the host with this centre chosen; the entries of both centres in one sheet are a fault
abbrev pub choosing : CentreKind → Host → Result Host LineFault
choosing kind h =
    unless (other_chosen kind h.centre) TwoCentres
    (Ok (record { order_places = h.order_places; trade_places = h.trade_places; centre = Some kind; limits = h.limits; pledges = h.pledges; margins = h.margins }))

-- at most 65,536 places of each kind
abbrev pub set_memory : Host → ℕ → ℕ → Result Host LineFault
set_memory h orders trades =
    unless (nat_lt 65536 orders) (OutOfRange key.Orders)
    (unless (nat_lt 65536 trades) (OutOfRange key.Trades)
    (Ok (record { order_places = orders; trade_places = trades; centre = h.centre; limits = h.limits; pledges = h.pledges; margins = h.margins })))

-- the lots centre's number for a contract, at most 1,000,000
abbrev pub set_limit : Host → ℕ → ℕ → Result Host LineFault
set_limit h contract limit =
    unless (nat_lt 1000000 limit) (OutOfRange key.Limit)
    (and_then (choosing Lots h) (λ c. Ok (record {
      order_places = c.order_places;
      trade_places = c.trade_places;
      centre = c.centre;
      limits = replaced c.limits contract (Some limit);
      pledges = c.pledges;
      margins = c.margins;
    })))

-- an account's pledge, at most 1,000,000,000,000
abbrev pub set_pledge : Host → ℕ → ℕ → Result Host LineFault
set_pledge h account amount =
    unless (nat_lt 1000000000000 amount) (OutOfRange key.Amount)
    (and_then (choosing Pledge h) (λ c. Ok (record {
      order_places = c.order_places;
      trade_places = c.trade_places;
      centre = c.centre;
      limits = c.limits;
      pledges = replaced c.pledges account (Some amount);
      margins = c.margins;
    })))

-- a contract's margin per lot, 1 to 1,000,000,000
abbrev pub set_margin : Host → ℕ → ℕ → Result Host LineFault
set_margin h contract amount =
    unless (nat_lt amount 1 || nat_lt 1000000000 amount) (OutOfRange key.Amount)
    (and_then (choosing Pledge h) (λ c. Ok (record {
      order_places = c.order_places;
      trade_places = c.trade_places;
      centre = c.centre;
      limits = c.limits;
      pledges = c.pledges;
      margins = replaced c.margins contract (Some amount);
    })))

abbrev pub with_entry : Host → SetUp → Result Host LineFault
with_entry h (setting.Memory orders trades) = set_memory h orders trades
with_entry h (setting.Lots contract limit) = set_limit h contract limit
with_entry h (setting.Pledge account amount) = set_pledge h account amount
with_entry h (setting.Margin contract amount) = set_margin h contract amount
