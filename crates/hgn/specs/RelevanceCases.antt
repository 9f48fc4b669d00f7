-- Cases of Req 04 of document 02, by computation: what effects do to wanted literals, and with which effect that is told.
use Rattle.std.specs.Prelude.{ℕ, ◌≡◌, true, false, List, [], ◌∷◌, map}
use Rattle.hgn.specs.Meaning.{Literal}
use Rattle.hgn.specs.Relevance.{Relevance, blocked, helping, neither, relevance}

-- Effects, wanted literals, and what is told of them.
pub record RelevanceCase : Type 0 where
  pub effects : List Literal
  pub wanted : List Literal
  pub told : Relevance

-- The atom made true, or wanted true; made false, or wanted false.
abbrev pub positive : ℕ → Literal
positive a = record { sign = true; atom = a }

abbrev pub negative : ℕ → Literal
negative a = record { sign = false; atom = a }

abbrev pub cases : List RelevanceCase
cases =
    -- No effects; nothing wanted.
    record { effects = []; wanted = positive 0 ∷ []; told = neither }
    ∷ record { effects = positive 0 ∷ []; wanted = []; told = neither }
    -- One effect: wanted itself, its opposite wanted, neither of them wanted, both.
    ∷ record { effects = negative 1 ∷ []; wanted = positive 0 ∷ negative 1 ∷ []; told = helping (negative 1) }
    ∷ record { effects = negative 1 ∷ []; wanted = positive 0 ∷ positive 1 ∷ []; told = blocked (negative 1) }
    ∷ record { effects = negative 1 ∷ []; wanted = positive 0 ∷ positive 2 ∷ []; told = neither }
    ∷ record { effects = negative 1 ∷ []; wanted = negative 1 ∷ positive 1 ∷ []; told = blocked (negative 1) }
    -- Two effects that help; two that are blocked: the first of the effects is told, whichever is wanted first.
    ∷ record { effects = positive 0 ∷ negative 1 ∷ []; wanted = negative 1 ∷ positive 0 ∷ []; told = helping (positive 0) }
    ∷ record { effects = positive 0 ∷ negative 1 ∷ []; wanted = positive 1 ∷ negative 0 ∷ []; told = blocked (positive 0) }
    -- A false one before a true one, both blocked: the order is the listed one, whatever the signs.
    ∷ record { effects = negative 1 ∷ positive 0 ∷ []; wanted = positive 1 ∷ negative 0 ∷ []; told = blocked (negative 1) }
    -- One helps and one is blocked: the blocked one is told, in either order.
    ∷ record { effects = positive 0 ∷ negative 1 ∷ []; wanted = positive 0 ∷ positive 1 ∷ []; told = blocked (negative 1) }
    ∷ record { effects = positive 0 ∷ negative 1 ∷ []; wanted = negative 0 ∷ negative 1 ∷ []; told = blocked (positive 0) }
    -- The first does neither, the others help.
    ∷ record { effects = positive 2 ∷ negative 1 ∷ positive 0 ∷ []; wanted = positive 0 ∷ negative 1 ∷ []; told = helping (negative 1) }
    ∷ []

abbrev pub RelevanceCases : Type 0
RelevanceCases = map (λ c. relevance c.effects c.wanted) cases ≡ map (λ c. c.told) cases
