-- What a leaf's binding asks. Assumes nothing: these are definitions.
use Rattle.std.specs.Prelude.{ℕ, ◌+◌, ◌≤◌, ◌≡◌, List, length}
use Rattle.refusals.specs.Stop.{never}
use Rattle.columns.specs.Column.{columns_stop}
use Rattle.forms.specs.Held.{LeafHeld}

-- sound columns, a leaf that is held in the stored text, and space for 7 bytes
pub record LeafAsks (stored columns out : List ℕ) (w at end : ℕ) : Type 0 where
  pub sound : columns_stop (length stored) 0 columns ≡ never
  pub few : length columns ≤ 64
  pub held : LeafHeld (length stored) w
  pub space : end + 7 ≤ length out
  pub early : at + 7 ≤ 448
