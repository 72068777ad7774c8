use Rattle.unite_sources.proofs.Listing.{row}
use Rattle.unite_sources.proofs.Gathering.{Apart}
use Rattle.unite_sources.proofs.prefix_lists.prefixes_nest.Given as goal

abbrev pub invariant-loop-k : goal.invariant-loop-k
invariant-loop-k l = Apart (row l.pool l.prefixes) l.n l.k
