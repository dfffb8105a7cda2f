-- Words that are close to `handler`, and words that are not, computed.
use Prim.Native.Nat.{ℕ}
use Prim.Native.Char.{code}
use Prim.Native.String.{String, [] as ε, ◌∷◌ as ◌◂◌}
use mathlib.Core.Path.{◌≡◌, refl}
use mathlib.Core.Bool.{true, false}
use mathlib.Core.List.{List, [], ◌∷◌, map}
use Rattle.closeness.specs.Closeness.{same, shared, agree, exchanged, close_from, close}

abbrev letters : String → List ℕ
letters ε = []
letters (c ◂ s) = code c ∷ letters s

-- itself, a letter changed, left out, added, two exchanged; at the start, inside, at the end
abbrev near : List (List ℕ)
near =
    letters "handler" ∷ letters "hondler" ∷ letters "Handler" ∷ letters "handle" ∷ letters "andler" ∷ letters "hadler" ∷ letters "handlerr"
    ∷ letters "ahandler" ∷ letters "hanndler" ∷ letters "hanlder" ∷ letters "ahndler" ∷ letters "handlre" ∷ []

-- two letters changed, left out or added, letters exchanged that are no neighbours, nothing
abbrev far : List (List ℕ)
far = letters "HANDLER" ∷ letters "hondlar" ∷ letters "hand" ∷ letters "handlers!" ∷ letters "hdnaler" ∷ letters "ahdnler" ∷ [] ∷ []

pub all_near : map (λ w. close w (letters "handler")) near ≡ true ∷ true ∷ true ∷ true ∷ true ∷ true ∷ true ∷ true ∷ true ∷ true ∷ true ∷ true ∷ []
unfolding same shared agree exchanged close_from close
all_near = refl

pub all-far : map (λ w. close w (letters "handler")) far ≡ false ∷ false ∷ false ∷ false ∷ false ∷ false ∷ false ∷ []
unfolding same shared agree exchanged close_from close
all-far = refl
