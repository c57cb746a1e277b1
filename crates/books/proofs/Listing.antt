-- The laws at the value of a price.
use Rattle.std.proofs.Common.{◌*◌, ◌≤◌, ℤ, ◌-ℤ◌, nat_abs, Some, None, Option, ap, arith}
use Rattle.records.specs.Registers.{numbered}
use Rattle.records.specs.declared.contract.Contract.{Contract}
use Rattle.books.specs.Listed.{value_if, settlement_if, ListedValuesAreBounded, DifferencesAreTheContract's, ChangesAreTheContract's}
use Rattle.books.proofs.Values.{value_bounded, settlement_small}

value_if_bounded : (o : Option Contract) (price : ℤ) → nat_abs (value_if o price) ≤ 1000 * nat_abs price
value_if_bounded None price = omega arith
value_if_bounded (Some c) price = value_bounded c price

settlement_if_small : (o : Option Contract) → nat_abs (settlement_if o) ≤ 1000000
settlement_if_small None = omega arith
settlement_if_small (Some c) = settlement_small c

pub listed_values_are_bounded : ListedValuesAreBounded
listed_values_are_bounded owners contracts =
    record {
      values = λ n price. value_if_bounded (numbered contracts n) price;
      settlements = λ n. settlement_if_small (numbered contracts n);
    }

pub differences_are_the_contract's : DifferencesAreTheContract's
differences_are_the_contract's owners contracts t c e = ap (λ o. value_if o (settlement_if o) -ℤ value_if o t.price) e

pub changes_are_the_contract's : ChangesAreTheContract's
changes_are_the_contract's owners contracts n c price e = ap (λ o. value_if o price -ℤ value_if o (settlement_if o)) e
