-- The demands are of the code: what the contract of a function says in its source is what the demands speak of.
use Rattle.std.specs.Prelude.{map, ◌≡◌}
use Rattle.contracts.specs.AnyCall.{After}
use Rattle.collections.specs.contracts.read as read
use Rattle.collections.specs.Reads.{read_told}
use Rattle.listing.specs.contracts.list as list
use Rattle.entering.specs.contracts.enter as enter
use Rattle.entering.specs.Enters.{enter_told}
use Rattle.triplets.specs.contracts.enter as enter-named
use Rattle.triplets.specs.Spelled.{spelled}
use Rattle.ordering.specs.contracts.order as order
use Rattle.ordering.specs.Orders.{order_told}
use Rattle.building.specs.contracts.build as build
use Rattle.building.specs.contracts.veto as veto
use Rattle.building.specs.Builds.{build_told}
use Rattle.checking.specs.contracts.check as check
use Rattle.checking.specs.Checks.{check_told}
use Rattle.loosening.specs.contracts.loosen as loosen
use Rattle.easing.specs.Eases.{lent}
use Rattle.loosening.specs.Loosens.{loosen_told}
use Rattle.parsing.specs.contracts.parse as parse
use Rattle.parsing.specs.Parses.{parse_told}
use Rattle.rendering.specs.contracts.render as render
use Rattle.rendering.specs.Renders.{render_told}
use Rattle.promises.specs.Operations.{Operations, gives}

pub record Tied (L : Operations) : Type 2 where
  pub reading : After read.ended (λ M 𝓤. read.clauses) (λ κs a r s. read_told r ≡ L.read a.0.now)
  pub listing : After list.ended (λ M 𝓤. list.clauses) (λ κs a r s. gives (read_told r) s.1.0.now ≡ L.list a.0.now a.1.0.now)
  pub entering : After enter.ended (λ M 𝓤. enter.clauses) (λ κs a r s. gives (enter_told r) s.1.1.0.now ≡ L.enter a.0 a.1.0.now a.1.1.0.now)
  pub entering_named : After enter-named.ended (λ M 𝓤. enter-named.clauses) (λ κs a r s. gives (enter_told r) s.1.1.0.now ≡ L.enter a.0 (map spelled a.1.0.now) a.1.1.0.now)
  pub ordering : After order.ended (λ M 𝓤. order.clauses) (λ κs a r s. gives (order_told r) s.1.1.0.now ≡ L.order a.0 a.1.0.now a.1.1.0.now)
  pub building : After build.ended (λ M 𝓤. build.clauses) (λ κs a r s. gives (build_told r) s.1.1.1.0.now ≡ L.build a.0 a.1.0 a.1.1.0.now a.1.1.1.0.now)
  pub vetoing : After veto.ended (λ M 𝓤. veto.clauses) (λ κs a r s. gives (build_told r) s.1.1.1.0.now ≡ L.veto a.0 a.1.0 a.1.1.0.now a.1.1.1.0.now)
  pub checking : After check.ended (λ M 𝓤. check.clauses) (λ κs a r s. check_told r ≡ L.check a.0 a.1.0.now a.1.1.0.now)
  pub loosening : After loosen.ended (λ M 𝓤. loosen.clauses)
      (λ κs a r s. gives (loosen_told r) (lent s.1.1.1.0.now s.1.1.1.1.0.now) ≡ L.loosen a.0 a.1.0.now a.1.1.0.now a.1.1.1.0.now a.1.1.1.1.0.now)
  pub parsing : After parse.ended (λ M 𝓤. parse.clauses) (λ κs a r s. gives (parse_told r) s.1.1.0.now ≡ L.parse a.0 a.1.0.now a.1.1.0.now)
  pub rendering : After render.ended (λ M 𝓤. render.clauses) (λ κs a r s. gives (render_told r) s.1.1.0.now ≡ L.render a.0 a.1.0.now a.1.1.0.now)
