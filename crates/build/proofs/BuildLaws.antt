-- A link or a joint that is set is the one that is read, and the others stay.
use Prim.Native.Nat.{ℕ, ◌<◌}
use mathlib.Core.Path.{◌≡◌, refl, ap, ◌∙◌}
use native.Mathlib.Omega.{arith}
use lib.ListN.{length}
use lib.Seq.{get_or-set_same, get_or-set_other}
use borrow.Author.Tests.{lt-ltb}
use Rattle.model.specs.declared.Link.{Link}
use Rattle.model.specs.declared.Joint.{Joint}
use Rattle.model.specs.declared.JointType.{JointType}
use Rattle.model.specs.declared.JointType.TheVariants.{Fixed, Revolute, Prismatic}
use Rattle.model.specs.declared.Model.{Model}
use Rattle.model.specs.Tables.{kind_of, code_of, joint_of, no_link, no_entry, view_of}
use Rattle.build.specs.Build.{entry_of, with_link, with_joint}

module _ (m : Model) (l : ℕ) (x : Link) (h : l < 64) (long : length m.links ≡ 64) where
  pub link_set : (view_of (with_link m l x)).link l ≡ x
  unfolding with_link
  link_set = rw (lt-ltb l 64 h) (get_or-set_same m.links l x no_link (omega arith))

  pub link_kept : (n : ℕ) → (n ≡ l → ⊥) → (view_of (with_link m l x)).link n ≡ (view_of m).link n
  unfolding with_link
  link_kept n d = rw (lt-ltb l 64 h) (get_or-set_other m.links l n x no_link d)

kind_read : (k : JointType) → kind_of (code_of k) ≡ k
unfolding kind_of
kind_read Fixed = refl
kind_read Revolute = refl
kind_read Prismatic = refl

module _ (m : Model) (j : ℕ) (x : Joint) (h : j < 63) (long : length m.joints ≡ 63) where
  pub joint_set : (view_of (with_joint m j x)).joint j ≡ x
  unfolding with_joint
  joint_set = rw (lt-ltb j 63 h) (ap joint_of (get_or-set_same m.joints j (entry_of x) no_entry (omega arith)) ∙ rw (kind_read x.kind) refl)

  pub joint_kept : (n : ℕ) → (n ≡ j → ⊥) → (view_of (with_joint m j x)).joint n ≡ (view_of m).joint n
  unfolding with_joint
  joint_kept n d = rw (lt-ltb j 63 h) (ap joint_of (get_or-set_other m.joints j n (entry_of x) no_entry d))
