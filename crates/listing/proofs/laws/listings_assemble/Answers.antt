use Rattle.listing.proofs.Texts.Sayings as sayings
use Rattle.listing.proofs.Texts.Listed as listed
use Rattle.listing.proofs.laws.listings_assemble.Goals as goal

pub returns-clause-sayings : goal.returns-clause-sayings
returns-clause-sayings c = sayings.sayings_assemble

pub returns-clause-listings : goal.returns-clause-listings
returns-clause-listings c = listed.listings_assemble
