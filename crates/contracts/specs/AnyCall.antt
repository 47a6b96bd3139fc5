-- What a contract says of any call, in the logic of the kit: what it asks, and what follows from what it ensures.
use seplogic.Ra.Ura.{Ura}
use base.Logic.{SProp, emp, ent}
use contract.Lifetimes.{Lfts}
use contract.Monad.{Fun, fact}
use denote.Triple.Clauses.{AtExit, Clauses, Ended}
use denote.Triple.Entry.{Args, Res}
use types.Logic.{Logic}
use prog.Memory.{Memory}
use prog.Routine.{Routine}

-- a contract, as the kit has it of the source: in any model of the logic, over the arguments, the result, and what the arguments hold at exit
abbrev pub Contract : Ended → Type 2
Contract T = (M : Type 1) (𝓤 : Ura M) (𝓛 : Logic 𝓤) → (Memory → SProp 𝓤) → (Routine → Fun 𝓤) → Clauses 𝓤 T

-- after any call of a function with the contract c, whatever is handed in, its `ensures` say Q of the arguments, the result and what the arguments hold at exit
abbrev pub After : (T : Ended) → Contract T → ((κs : Lfts T.signature.lifetimes) → Args T.signature κs → Res T.signature κs → AtExit T κs → Type 0) → Type 2
After T c Q = (M : Type 1) (𝓤 : Ura M) (𝓛 : Logic 𝓤) (mem : Memory → SProp 𝓤) (run : Routine → Fun 𝓤) (κs : Lfts T.signature.lifetimes) (a : Args T.signature κs)
    (g : (c M 𝓤 𝓛 mem run κs a).ghost) (r : Res T.signature κs) (s : AtExit T κs) → ent 𝓤 ((c M 𝓤 𝓛 mem run κs a).ensures g r s) (fact 𝓤 (Q κs a r s))

-- nothing is asked of who calls a function with the contract c, whatever is handed in: no ghost argument is missing, and what it `requires` is had for nothing
abbrev pub AsksNothing : (T : Ended) → Contract T → Type 2
AsksNothing T c = (M : Type 1) (𝓤 : Ura M) (𝓛 : Logic 𝓤) (mem : Memory → SProp 𝓤) (run : Routine → Fun 𝓤) (κs : Lfts T.signature.lifetimes) (a : Args T.signature κs)
    → (c M 𝓤 𝓛 mem run κs a).ghost × ((g : (c M 𝓤 𝓛 mem run κs a).ghost) → ent 𝓤 (emp 𝓤) ((c M 𝓤 𝓛 mem run κs a).requires g))
