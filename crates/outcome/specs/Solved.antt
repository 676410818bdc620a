-- What a kernel leaves in the output, as a list.
use Rattle.std.specs.Prelude.{List, ◌++◌, Float}
use Rattle.spatial.specs.declared.Quaternion.{Quaternion}
use Rattle.spatial.specs.declared.Wrench.{Wrench}
use Rattle.tree.specs.Tree.{Kernel}
use Rattle.model.specs.Tables.{view_of}
use Rattle.model.specs.declared.Model.{Model}
use Rattle.model.specs.Numbers.{holder_of}
use Rattle.model.specs.View.{numbering_of}
use Rattle.model.specs.declared.RootMode.{RootMode}
use Rattle.dynamics.specs.Run.{Run}
use Rattle.dynamics.specs.Figures.{figure_of, root_of}
use Rattle.spatial.specs.Listed.{list_of}
use Rattle.outcome.specs.Figures.{root_figures}

-- the figures of a run over a model
abbrev pub solved_list : {S : Type 0} → RootMode → Quaternion → Model → Run → Kernel S Wrench → List Float
solved_list mode base m t k =
    let n = numbering_of (view_of m) in
    root_figures mode base (root_of k) ++ list_of m.moving (λ i. figure_of t k (holder_of n n.count i))
