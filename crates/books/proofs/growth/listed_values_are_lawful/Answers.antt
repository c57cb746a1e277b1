use Rattle.books.proofs.Listing.{listed_values_are_bounded, differences_are_the_contract's, changes_are_the_contract's}
use Rattle.books.proofs.growth.listed_values_are_lawful.Goals as goal

pub returns : goal.returns
returns c = record { bounded = listed_values_are_bounded; differences = differences_are_the_contract's; changes = changes_are_the_contract's }
