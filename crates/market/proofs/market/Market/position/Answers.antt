use Rattle.std.proofs.Common.{◌≡◌, ℤ, Some, Ok, Option, sym, ap, ◌∙◌, w64}
use Rattle.std.proofs.lemmas.Int.{to_z-of_z}
use Rattle.records.specs.Registers.{numbered}
use Rattle.records.specs.declared.account.Account.{Account}
use Rattle.records.specs.declared.contract.Contract.{Contract}
use Rattle.market.specs.Questions.{position_of}
use Rattle.market.specs.Views.{view}
use Rattle.market.proofs.Rows.{told_known}
use Rattle.market.proofs.market.Market.position.Goals as goal

pub returns : goal.returns
returns c =
    let s = view c.args.self.now in
    let account : numbered s.accounts c.args.account ≡ Some c.in_ok-holder.holder = told_known _ _ c.in_ok-holder.ensures in
    let contract : numbered s.contracts c.args.contract ≡ Some c.in_ok-contract.field-0 = told_known _ _ c.in_ok-contract.ensures in
    ap (λ (z : ℤ). Ok z) (to_z-of_z w64 c.lots_in.result (record { sfits = c.lots_in.type_inv }) ∙ c.lots_in.ensures)
    ∙ sym (ap (λ (o : Option Account). position_of o (numbered s.contracts c.args.contract) c.args.contract) account
    ∙ ap (λ (o : Option Contract). position_of (Some c.in_ok-holder.holder) o c.args.contract) contract)
