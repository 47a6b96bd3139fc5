-- The operations are tied to the code. Assumes nothing.
use mathlib.Core.Path.{ap}
use seplogic.Ra.Ura.{Ura}
use base.Logic.{ent, fst∗, sep, snd∗, via}
use contract.Monad.{fact, fact_mono, fact_use}
use Rattle.collections.specs.Reads.{read_told}
use Rattle.entering.specs.Enters.{enter_told}
use Rattle.ordering.specs.Orders.{order_told}
use Rattle.parsing.specs.Parses.{parse_told}
use Rattle.rendering.specs.Renders.{render_told}
use Rattle.building.specs.Builds.{build_told}
use Rattle.checking.specs.Checks.{check_told}
use Rattle.loosening.specs.Loosens.{loosen_told}
use Rattle.table_lines.specs.Lines.{build_line, enter_line, list_line, read_line, veto_line}
use Rattle.tree_lines.specs.Lines.{check_line, loosen_line, order_line, parse_line, render_line}
use Rattle.promises.specs.Operations.{koodhaxil}
use Rattle.ties.specs.Linked.{Linked, Printed}
use Rattle.ties.specs.Tied.{Tied}
use Rattle.promises.proofs.Chosen.{settled_gives}

-- two clauses say what follows from both
both_say : {M : Type 1} (𝓤 : Ura M) {A B Q : Type 0} → (A → B → Q) → ent 𝓤 (sep 𝓤 (fact 𝓤 A) (fact 𝓤 B)) (fact 𝓤 Q)
both_say 𝓤 {A} {B} {Q} f = fact_use 𝓤 A (fst∗ 𝓤 (fact 𝓤 A) (fact 𝓤 B)) (λ a. via 𝓤 (fact 𝓤 B) (snd∗ 𝓤 (fact 𝓤 A) (fact 𝓤 B)) (fact_mono 𝓤 B Q (f a)))

pub tied : Tied koodhaxil
tied = record {
  reading = λ M 𝓤 𝓛 mem run κs a g r s. fact_mono 𝓤 _ _ (λ h. ap read_told h);
  listing = λ M 𝓤 𝓛 mem run κs a g r s. fact_mono 𝓤 _ _ (λ h. settled_gives read_told h);
  entering = λ M 𝓤 𝓛 mem run κs a g r s. fact_mono 𝓤 _ _ (λ h. settled_gives enter_told h);
  entering_named = λ M 𝓤 𝓛 mem run κs a g r s. fact_mono 𝓤 _ _ (λ h. settled_gives enter_told h);
  ordering = λ M 𝓤 𝓛 mem run κs a g r s. fact_mono 𝓤 _ _ (λ h. settled_gives order_told h);
  building = λ M 𝓤 𝓛 mem run κs a g r s. fact_mono 𝓤 _ _ (λ h. settled_gives build_told h);
  vetoing = λ M 𝓤 𝓛 mem run κs a g r s. fact_mono 𝓤 _ _ (λ h. settled_gives build_told h);
  checking = λ M 𝓤 𝓛 mem run κs a g r s. fact_mono 𝓤 _ _ (λ h. ap check_told h);
  loosening = λ M 𝓤 𝓛 mem run κs a g r s. fact_mono 𝓤 _ _ (λ h. settled_gives loosen_told h);
  parsing = λ M 𝓤 𝓛 mem run κs a g r s. fact_mono 𝓤 _ _ (λ h. settled_gives parse_told h);
  rendering = λ M 𝓤 𝓛 mem run κs a g r s. fact_mono 𝓤 _ _ (λ h. settled_gives render_told h);
}

-- ---- so are the C functions, and the lines of `trial`

pub linked : Linked koodhaxil
linked = record {
  reading = λ M 𝓤 𝓛 mem run κs a g r s. fact_mono 𝓤 _ _ (λ h. h);
  listing = λ M 𝓤 𝓛 mem run κs a g r s. both_say 𝓤 (λ h k. record { handed = h; left = k });
  entering = λ M 𝓤 𝓛 mem run κs a g r s. both_say 𝓤 (λ h k. record { handed = h; left = k });
  ordering = λ M 𝓤 𝓛 mem run κs a g r s. both_say 𝓤 (λ h k. record { handed = h; left = k });
  building = λ M 𝓤 𝓛 mem run κs a g r s. both_say 𝓤 (λ h k. record { handed = h; left = k });
  vetoing = λ M 𝓤 𝓛 mem run κs a g r s. both_say 𝓤 (λ h k. record { handed = h; left = k });
  checking = λ M 𝓤 𝓛 mem run κs a g r s. fact_mono 𝓤 _ _ (λ h. h);
  loosening = λ M 𝓤 𝓛 mem run κs a g r s. both_say 𝓤 (λ h k. record { handed = h; left = k });
  parsing = λ M 𝓤 𝓛 mem run κs a g r s. both_say 𝓤 (λ h k. record { handed = h; left = k });
  rendering = λ M 𝓤 𝓛 mem run κs a g r s. both_say 𝓤 (λ h k. record { handed = h; left = k });
}

pub printed : Printed koodhaxil
unfolding read_line list_line enter_line order_line build_line veto_line check_line loosen_line parse_line render_line
printed = record {
  reading = λ M 𝓤 𝓛 mem run κs a g r s. fact_mono 𝓤 _ _ (λ h. h);
  listing = λ M 𝓤 𝓛 mem run κs a g r s. both_say 𝓤 (λ h k. record { line = h; left = k });
  entering = λ M 𝓤 𝓛 mem run κs a g r s. both_say 𝓤 (λ h k. record { line = h; left = k });
  ordering = λ M 𝓤 𝓛 mem run κs a g r s. both_say 𝓤 (λ h k. record { line = h; left = k });
  building = λ M 𝓤 𝓛 mem run κs a g r s. both_say 𝓤 (λ h k. record { line = h; left = k });
  vetoing = λ M 𝓤 𝓛 mem run κs a g r s. both_say 𝓤 (λ h k. record { line = h; left = k });
  checking = λ M 𝓤 𝓛 mem run κs a g r s. fact_mono 𝓤 _ _ (λ h. h);
  loosening = λ M 𝓤 𝓛 mem run κs a g r s. both_say 𝓤 (λ h k. record { line = h; left = k });
  parsing = λ M 𝓤 𝓛 mem run κs a g r s. both_say 𝓤 (λ h k. record { line = h; left = k });
  rendering = λ M 𝓤 𝓛 mem run κs a g r s. both_say 𝓤 (λ h k. record { line = h; left = k });
}
