use Rattle.measures.specs.Finer.{Turning}
use Rattle.measures.proofs.logarithm.FineLogarithm.log2.Given as goal

abbrev pub invariant-loop-k : goal.invariant-loop-k
invariant-loop-k l = Turning l.n l.k l.x l.v
