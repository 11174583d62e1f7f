-- `replacing::replace` meets its contract. Assumes nothing.
use mathlib.Core.Path.{sym, ap, ◌∙◌}
use native.Mathlib.Omega.{arith}
use Rattle.integers.specs.Outcome.{reply_of}
use Rattle.postfix.proofs.Reading.{leaf_width}
use Rattle.replacing.proofs.Standing.{replaced_value}
use Rattle.replacing.proofs.replace.Goals as goal

pub write_leaf-end-requires : goal.write_leaf-end-requires
write_leaf-end-requires c = omega (arith, c.requires.0, leaf_width c.in-Ok.word)

pub returns-in-Ok : goal.returns-in-Ok
returns-in-Ok c = λ o s text front e b st fr. replaced_value s text front _ _ _ _ st fr o _ _ _ (sym (ap reply_of c.in-Ok.is) ∙ e) b c.write_leaf-end.ensures
