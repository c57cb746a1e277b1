use Rattle.std.proofs.Common.{pos, ◌*ℤ◌, ap, ◌∙◌, w64}
use Rattle.std.proofs.lemmas.Int.{to_z-of_z}
use Rattle.books.specs.Ledgers.{accounts_of}
use Rattle.books.proofs.Booking.{Allowed, booked_balanced, keeps_agreement}
use Rattle.books.proofs.Booked.{seller_small, both_sides}
use Rattle.books.proofs.ledger.Ledger.book.Goals as goal

pub enter_at-requires-2 : goal.enter_at-requires-2
enter_at-requires-2 c =
    let allowed : Allowed c.args.trade.now c.args.buyer c.args.seller c.args.difference (accounts_of c.args.self.now) =
    record { known = c.requires.accounts; contract = c.requires.contract; small = c.requires.small; room = c.requires.room } in
    let bought = c.buying-bought.ensures in
    let gain = bought.gain ∙ ap (λ z. pos c.args.trade.now.quantity *ℤ z) (to_z-of_z w64 c.args.difference c.ranges.difference) in
    seller_small allowed bought.contract bought.lots gain c.enter_at.ensures c.opposite.ensures.contract

pub returns : goal.returns
returns c =
    let allowed : Allowed c.args.trade.now c.args.buyer c.args.seller c.args.difference (accounts_of c.args.self.now) =
    record { known = c.requires.accounts; contract = c.requires.contract; small = c.requires.small; room = c.requires.room } in
    let bought = c.buying-bought.ensures in
    let sold = c.opposite.ensures in
    let gain = bought.gain ∙ ap (λ z. pos c.args.trade.now.quantity *ℤ z) (to_z-of_z w64 c.args.difference c.ranges.difference) in
    let is = both_sides allowed bought.contract bought.lots gain c.enter_at.ensures sold.contract sold.lots sold.gain c.enter_at-2.ensures in
    record { booked = is; agrees = rw is (keeps_agreement allowed); balanced = λ h. rw is (booked_balanced allowed h) }
