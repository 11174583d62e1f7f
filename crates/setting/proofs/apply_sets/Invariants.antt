-- `setting::apply_sets` meets its contract. The loop's invariant: applying the sets that are left gives the result. Assumes nothing.
use Rattle.setting.proofs.Setting.{Applying}
use Rattle.setting.proofs.apply_sets.Given as goal

abbrev pub invariant-loop-k : goal.invariant-loop-k
invariant-loop-k l = Applying l.sets l.initial.row l.row l.k
