-- What is shown of the definitions, each statement under its own name; `proofs/Theorems.antt` proves each.
-- Assumes nothing.
use Rattle.std.specs.Prelude.{ℕ, ◌+◌, ◌≤◌, ◌<◌, ◌*◌, ◌≡◌, ◌⊎◌, ◌↔◌, true, false, length, get_or}
use mathlib.Core.List.{List, [], map, Memᴰ as Mem}
use Rattle.model.specs.declared.Triple.{Triple}
use Rattle.model.specs.declared.Vocabulary.{Vocabulary}
use Rattle.model.specs.Codes.{absent, kind, reserved, most_triples}
use Rattle.model.specs.Lists.{how_many, total, padded}
use Rattle.model.specs.Triples.{triple, triples, flat, slots, before, same, holds, place, insert, without, sorted, listed}
use Rattle.model.specs.Order.{Rising}
use Rattle.model.specs.Roster.{mark, is_class, is_property, covers, own_roster, wrong_roster, wrong_codes}
use Rattle.model.specs.Rules.{Derives}
use Rattle.model.specs.Saturation.{saturation}
use Rattle.model.specs.Partition.{label}
use Rattle.model.specs.declared.Side.{Side}
use Rattle.model.specs.Cliques.{Graph, Node, Has, Clique, cliques}
use Rattle.model.specs.Classes.{DataNode, Weakly, Strongly, RepresentsBy, map_of, strong_map_of}
use Rattle.model.specs.Summary.{moved, Image, condensed, summary, weights, strong_summary}
use Rattle.model.specs.Outcomes.{Outcome, accepted, Answer, answer, Said, new, Passes}
use Rattle.model.specs.Calls.{Accepted}
use Rattle.model.specs.Intake.{State, feeding, removing, Call, is_new, is_removed, plain_checks, reply_to, held_then, answers, held_after, state_of, open_outcome, opened, Run}
use Rattle.theory.specs.Bounds.{slots_bound, Bounded}

-- the triples of a table, as a set
abbrev pub TriplesOf : List ℕ → Graph
TriplesOf table t = Mem t (triples table)

-- ── the place of a triple ──
-- 02: "Technicians who step through a long list want to land where a triple belongs." In a rising list the triples in front of the place come
-- before t, and none from there on does.
pub record PlaceRight (t : Triple) (ts : List Triple) : Type 0 where
  pub within : place t ts ≤ length ts
  pub front : (k : ℕ) → k < place t ts → (d : Triple) → before (get_or ts k d) t ≡ true
  pub back : (k : ℕ) → place t ts ≤ k → k < length ts → (d : Triple) → before (get_or ts k d) t ≡ false
  -- a triple that is held stands at its place, and one that joins stands there afterwards
  pub held : holds t ts ≡ true → (d : Triple) → get_or ts (place t ts) d ≡ t
  pub joined : (d : Triple) → get_or (insert t ts) (place t ts) d ≡ t

abbrev pub PlacesRight : Type 0
PlacesRight = (t : Triple) (ts : List Triple) → Rising ts → PlaceRight t ts

-- ── a triple that leaves ──
-- 02: "its triple leaves H": it is gone, every other triple stays, and the order does; a triple that is fed and removed again leaves what was held,
-- and so does one that is removed and fed again
pub record Left (t : Triple) (H : List Triple) : Type 0 where
  pub rising : Rising (without t H)
  pub exact : (u : Triple) → Mem u (without t H) ↔ (Mem u H × (u ≡ t → ⊥))
  pub fed_before : holds t H ≡ false → without t (insert t H) ≡ H
  pub fed_again : holds t H ≡ true → insert t (without t H) ≡ H

abbrev pub LeavesRight : Type 0
LeavesRight = (t : Triple) (H : List Triple) → Rising H → Left t H

module _ (v : Vocabulary) where
  abbrev pub saturation_of : List ℕ → List ℕ → List Triple
  saturation_of table roster = saturation v (length roster) (triples table)

  abbrev pub summary_of : List ℕ → List ℕ → List Triple
  summary_of table roster = summary v roster (triples table)

  abbrev pub strong_summary_of : List ℕ → List ℕ → List Triple
  strong_summary_of table roster = strong_summary v roster (triples table)

  -- ── demand 2 ──
  -- the demand: Saturation holds a triple exactly if the rules give it; 02: "Saturation means the closure under all ten from here on"
  pub record Saturation (table roster : List ℕ) : Type 0 where
    pub rising : Rising (saturation_of table roster)
    pub exact : (t : Triple) → Mem t (saturation_of table roster) ↔ Derives v (TriplesOf table) t

  abbrev pub SaturationExact : Type 0
  SaturationExact = (table roster : List ℕ) → Accepted v table roster → Saturation table roster

  -- a triple of the saturation
  abbrev pub InSaturation : List ℕ → List ℕ → ℕ → ℕ → ℕ → Type 0
  InSaturation table roster s p o = Mem (triple s p o) (saturation_of table roster)

  -- the table's triple from which the triple a p d follows, p being domain or range: at a or at a property above it, with d or with a class
  -- below it
  pub record Source (table roster : List ℕ) (p a d : ℕ) : Type 0 where
    pub property : ℕ
    pub class : ℕ
    pub given : Mem (triple property p class) (triples table)
    pub above : (a ≡ property) ⊎ InSaturation table roster a v.subproperty property
    pub below : (class ≡ d) ⊎ InSaturation table roster class v.subclass d

  pub record Constraints (table roster : List ℕ) : Type 0 where
    -- 02: "Rule 7: a subproperty b, b domain c give a domain c. Rule 8: the same for range."
    pub rule_7 : (a b c : ℕ) → InSaturation table roster a v.subproperty b → InSaturation table roster b v.domain c → InSaturation table roster a v.domain c
    pub rule_8 : (a b c : ℕ) → InSaturation table roster a v.subproperty b → InSaturation table roster b v.range c → InSaturation table roster a v.range c
    -- 02: "Rule 9: a domain c, c subclass d give a domain d. Rule 10: the same for range."
    pub rule_9 : (a c d : ℕ) → InSaturation table roster a v.domain c → InSaturation table roster c v.subclass d → InSaturation table roster a v.domain d
    pub rule_10 : (a c d : ℕ) → InSaturation table roster a v.range c → InSaturation table roster c v.subclass d → InSaturation table roster a v.range d
    -- and no other domain or range is in it: each has its source in the table, by the saturation's own subproperties and subclasses
    pub domains : (a d : ℕ) → InSaturation table roster a v.domain d ↔ Source table roster v.domain a d
    pub ranges : (a d : ℕ) → InSaturation table roster a v.range d ↔ Source table roster v.range a d
    -- 02: "Planners read domain and range lines straight off the printout": the summary of the saturation has the same schema triples as the saturation
    pub printed : (t : Triple) → 1 ≤ kind v t.property → kind v t.property ≤ 4
        → Mem t (summary v roster (saturation_of table roster)) ↔ Mem t (saturation_of table roster)

  abbrev pub ConstraintsFollow : Type 0
  ConstraintsFollow = (table roster : List ℕ) → Accepted v table roster → Constraints table roster

  -- per property with a clique at a side, the smallest property of that clique; for any other code, absent
  pub record CliqueList (table roster : List ℕ) (e : Side) : Type 0 where
    pub one_clique : (n m p q : ℕ) → Has v roster (TriplesOf table) e n p → Has v roster (TriplesOf table) e m q
        → (label (cliques v roster e (triples table)) p ≡ label (cliques v roster e (triples table)) q) ↔ Clique v roster (TriplesOf table) e p q
    pub member : (n p : ℕ) → Has v roster (TriplesOf table) e n p → Clique v roster (TriplesOf table) e p (label (cliques v roster e (triples table)) p)
    pub smallest : (p q : ℕ) → Clique v roster (TriplesOf table) e p q → label (cliques v roster e (triples table)) p ≤ q
    pub no_clique : (p : ℕ) → ((n : ℕ) → Has v roster (TriplesOf table) e n p → ⊥) → label (cliques v roster e (triples table)) p ≡ absent
    pub size : length (cliques v roster e (triples table)) ≡ length roster

  abbrev pub CliquesExact : Type 0
  CliquesExact = (table roster : List ℕ) → Accepted v table roster → (e : Side) → CliqueList table roster e

  -- the demand: two data nodes share a representative exactly if they are equivalent; the representative is the smallest code of its class,
  -- a marked node's is itself, and a code that is no node is absent. E is the equivalence, m the map.
  pub record RepresentativesBy (table roster : List ℕ) (E : ℕ → ℕ → Type 0) (m : List ℕ) : Type 0 where
    pub shared : (c d : ℕ) → DataNode v roster (TriplesOf table) c → DataNode v roster (TriplesOf table) d → (label m c ≡ label m d) ↔ E c d
    pub represents : RepresentsBy v roster E (TriplesOf table) (label m)
    pub no_node : (c : ℕ) → (Node (TriplesOf table) c → ⊥) → label m c ≡ absent
    -- 02: "Every place that named 0 to 4 reads the loaded five, .. the map's absent entries too"
    pub no_word : (c : ℕ) → reserved v c ≡ true → label m c ≡ absent
    pub size : length m ≡ length roster

  -- by weak equivalence
  abbrev pub RepresentativesExact : Type 0
  RepresentativesExact =
      (table roster : List ℕ) → Accepted v table roster → RepresentativesBy table roster (Weakly v roster (TriplesOf table)) (map_of v roster (triples table))

  -- 02: "data nodes are together exactly if they have the same source clique and the same target clique, none counting as a value.
  -- Representatives, lists and checks are those of the weak one."
  abbrev pub StrongRepresentativesExact : Type 0
  StrongRepresentativesExact =
      (table roster : List ℕ) → Accepted v table roster → RepresentativesBy table roster (Strongly v roster (TriplesOf table)) (strong_map_of v roster (triples table))

  -- the demand: a triple is in the summary exactly if it is an image
  pub record SummaryBy (table m : List ℕ) : Type 0 where
    pub rising : Rising (condensed m (triples table))
    pub exact : (t : Triple) → Mem t (condensed m (triples table)) ↔ Image (label m) (TriplesOf table) t

  abbrev pub SummaryExact : Type 0
  SummaryExact = (table roster : List ℕ) → Accepted v table roster → SummaryBy table (map_of v roster (triples table))

  abbrev pub StrongSummaryExact : Type 0
  StrongSummaryExact = (table roster : List ℕ) → Accepted v table roster → SummaryBy table (strong_map_of v roster (triples table))

  -- 01: "the smallest roster covering a table"
  pub record OwnRoster (n : ℕ) (ts : List Triple) : Type 0 where
    pub size : length (own_roster v n ts) ≡ n
    pub right : wrong_roster v (own_roster v n ts) ≡ false
    pub covering : covers v (own_roster v n ts) ts ≡ true
    pub least : (roster : List ℕ) → covers v roster ts ≡ true → (c : ℕ) → c < n
        → (is_class (mark (own_roster v n ts) c) ≡ true → is_class (mark roster c) ≡ true)
        × (is_property (mark (own_roster v n ts) c) ≡ true → is_property (mark roster c) ≡ true)

  abbrev pub OwnRosterLeast : Type 0
  OwnRosterLeast = (n : ℕ) (ts : List Triple) → wrong_codes v n ts ≡ false → OwnRoster n ts

  -- ── demand 3, what needs no query ──
  -- by any way to map the nodes of triples
  module _ (mapped : List Triple → List ℕ) where
    abbrev pub sum_by : List Triple → List Triple
    sum_by ts = condensed (mapped ts) ts

    -- the saturation of the summary
    abbrev pub short_by : List ℕ → List ℕ → List Triple
    short_by table roster = saturation v (length roster) (sum_by (triples table))

    -- the demand: the shortcut holds, triples and maps: saturating the summary and summarising again ends where summarising the saturation ends
    pub record ShortcutBy (table roster : List ℕ) : Type 0 where
      pub triples : sum_by (saturation_of table roster) ≡ sum_by (short_by table roster)
      pub maps : (c : ℕ) → label (mapped (short_by table roster)) (label (mapped (Rattle.model.specs.Triples.triples table)) c) ≡ label (mapped (saturation_of table roster)) c

    -- no check before 5 refuses a table on either route, unless the saturation is longer than a table may be
    pub record RoutesBy (table roster : List ℕ) : Type 0 where
      pub summary_accepted : Accepted v (flat (sum_by (triples table))) roster
      pub saturation_accepted : length (saturation_of table roster) ≤ most_triples → Accepted v (flat (saturation_of table roster)) roster
      -- the saturation of the summary is no longer than that of the table
      pub shorter : length (short_by table roster) ≤ length (saturation_of table roster)
      pub second_accepted : length (short_by table roster) ≤ most_triples → Accepted v (flat (short_by table roster)) roster

  abbrev pub ShortcutHolds : Type 0
  ShortcutHolds = (table roster : List ℕ) → Accepted v table roster → ShortcutBy (map_of v roster) table roster

  abbrev pub RoutesAccepted : Type 0
  RoutesAccepted = (table roster : List ℕ) → Accepted v table roster → RoutesBy (map_of v roster) table roster

  -- 02: "Show that the two routes of the shortcut agree here too"
  abbrev pub StrongShortcutHolds : Type 0
  StrongShortcutHolds = (table roster : List ℕ) → Accepted v table roster → ShortcutBy (strong_map_of v roster) table roster

  abbrev pub StrongRoutesAccepted : Type 0
  StrongRoutesAccepted = (table roster : List ℕ) → Accepted v table roster → RoutesBy (strong_map_of v roster) table roster

  -- 02: "the weak summary of the strong summary is the table's own weak summary, with the representatives carried through both maps"
  pub record WeakOfStrong (table roster : List ℕ) : Type 0 where
    pub triples : summary v roster (strong_summary_of table roster) ≡ summary_of table roster
    pub maps : (c : ℕ)
        → label (map_of v roster (strong_summary_of table roster)) (label (strong_map_of v roster (Rattle.model.specs.Triples.triples table)) c)
        ≡ label (map_of v roster (Rattle.model.specs.Triples.triples table)) c

  abbrev pub WeakOfStrongHolds : Type 0
  WeakOfStrongHolds = (table roster : List ℕ) → Accepted v table roster → WeakOfStrong table roster

  -- the demand: feeding in any order, with repeats, ends in the plain summary
  pub record Collected (table roster : List ℕ) (H : List Triple) : Type 0 where
    pub held : H ≡ sorted (triples table)
    pub summarised : summary v roster H ≡ summary_of table roster
    pub mapped : map_of v roster H ≡ map_of v roster (triples table)

  abbrev pub AnyOrder : Type 0
  AnyOrder =
      (table roster : List ℕ) → Accepted v table roster → (space : ℕ) → length (sorted (triples table)) ≤ space
      → (cs : List Call) → ((c : Call) → Mem c cs → (c.kind ≡ feeding) × (c.work ≡ 2 * length roster))
      → ((t : Triple) → Mem t (map (λ (c : Call). c.triple) cs) ↔ Mem t (triples table))
      → Collected table roster (held_after v roster space cs [])

  -- 02: "Feeding the intake reports the same place within the triples it held before the call, for a repeat too." In what is held after an
  -- accepted feed, new or not, its triple stands at that place.
  abbrev pub FedStands : Type 0
  FedStands =
      (roster : List ℕ) (space : ℕ) (H : List Triple) (c : Call) (x : Answer Said) (d : Triple) → Rising H → c.kind ≡ feeding
      → reply_to v roster space H c ≡ accepted x → get_or (held_then (accepted x) c.triple H) x.place d ≡ c.triple

  -- 02: "the answer is "removed" with its place in H". In what was held before an accepted removal, its triple stood at that place.
  abbrev pub RemovedStood : Type 0
  RemovedStood =
      (roster : List ℕ) (space : ℕ) (H : List Triple) (c : Call) (x : Answer Said) (d : Triple) → Rising H → c.kind ≡ removing
      → reply_to v roster space H c ≡ accepted x → get_or H x.place d ≡ c.triple

  -- 02: "A slot set free takes a later triple." After an accepted removal, also from an intake whose every slot held a triple, a feed that passes
  -- the checks and whose triple is not held is new, whether its triple is the one that left or another.
  abbrev pub SlotFreed : Type 0
  SlotFreed =
      (roster : List ℕ) (space : ℕ) (H : List Triple) (c d : Call) (x : Answer Said) → length H ≤ space → c.kind ≡ removing → reply_to v roster space H c ≡ accepted x
      → d.kind ≡ feeding → Passes (plain_checks v roster d) → holds d.triple (without c.triple H) ≡ false
      → reply_to v roster space (without c.triple H) d ≡ accepted (answer new (place d.triple (without c.triple H)))

  -- 02: "The intake keeps, beside each summary triple, the count of held triples whose image it is". The weights by their places, whatever is
  -- held; each line stands for at least one triple, and together they stand for what is held.
  pub record WeightsRight (roster : List ℕ) (H : List Triple) : Type 0 where
    pub beside : length (weights v roster H) ≡ length (summary v roster H)
    pub counts : (k : ℕ) (d : Triple) → k < length (summary v roster H)
        → get_or (weights v roster H) k 0 ≡ how_many (λ t. same (get_or (summary v roster H) k d) (moved (label (map_of v roster H)) t)) H
    pub some : (k : ℕ) → k < length (summary v roster H) → 1 ≤ get_or (weights v roster H) k 0
    pub sum : total (weights v roster H) ≡ length H

  abbrev pub WeightsExact : Type 0
  WeightsExact = (roster : List ℕ) (H : List Triple) → WeightsRight roster H

  -- the demand: every list of calls, refusals and repeats included, gives the plain intake's answers and state, as one claim about the whole list;
  -- 02: "After any mixture of feeding and removing from opening, .., the answers are the plain intake's, the lists and both counts must be those of
  -- H and its summary"
  pub record Plain (roster : List ℕ) (s : State) (cs : List Call) (os : List (Outcome (Answer Said))) (end : State) : Type 0 where
    pub answered : os ≡ answers v roster (slots s.triples) cs []
    pub state : end ≡ state_of v roster s (held_after v roster (slots s.triples) cs [])
    -- what is held is a table in rising order, accepted with the roster: demand 2 says what its summary and its map are
    pub rising : Rising (held_after v roster (slots s.triples) cs [])
    pub accepted_table : Accepted v (flat (held_after v roster (slots s.triples) cs [])) roster
    -- 02: "zero past the last summary triple"; "the weights add up to accepted new triples less removed ones"
    pub past : (k : ℕ) → end.summarised ≤ k → get_or end.weights k 0 ≡ 0
    pub weighed : total end.weights + how_many is_removed os ≡ how_many is_new os

  abbrev pub WholeList : Type 0
  WholeList =
      (roster : List ℕ) (s end : State) (cs : List Call) (os : List (Outcome (Answer Said))) → open_outcome v roster s ≡ accepted tt
      → Run v roster (opened v roster s) cs os end → Plain roster s cs os end

  -- the demand: feeding in any order, with repeats, ends in the plain summary, of the lists and the record that a run of feeds leaves
  pub record Filled (table roster : List ℕ) (s end : State) : Type 0 where
    pub triples : end.triples ≡ listed (length s.triples) (sorted (Rattle.model.specs.Triples.triples table))
    pub summary : end.summary ≡ listed (length s.summary) (summary_of table roster)
    pub weights : end.weights ≡ padded (length s.weights) (Rattle.model.specs.Summary.weights v roster (sorted (Rattle.model.specs.Triples.triples table)))
    pub map : end.map ≡ map_of v roster (Rattle.model.specs.Triples.triples table)
    pub held : end.held ≡ length (sorted (Rattle.model.specs.Triples.triples table))
    pub summarised : end.summarised ≡ length (summary_of table roster)

  abbrev pub FedInAnyOrder : Type 0
  FedInAnyOrder =
      (table roster : List ℕ) → Accepted v table roster → (s end : State) (cs : List Call) (os : List (Outcome (Answer Said))) → open_outcome v roster s ≡ accepted tt
      → length (sorted (triples table)) ≤ slots s.triples
      → ((c : Call) → Mem c cs → (c.kind ≡ feeding) × (c.work ≡ 2 * length roster))
      → ((t : Triple) → Mem t (map (λ (c : Call). c.triple) cs) ↔ Mem t (triples table))
      → Run v roster (opened v roster s) cs os end → Filled table roster s end

  -- ── slots a summary may need ──
  -- 02: "State a bound on the data triples of a weak summary". It is of the table that is summarised, saturated or not.
  abbrev pub SummaryBounded : Type 0
  SummaryBounded = (table roster : List ℕ) → Accepted v table roster → Bounded v roster (triples table)

  -- Without some of its triples a table may have a longer summary, because classes fall apart, but no higher bound.
  abbrev pub PartBounded : Type 0
  PartBounded =
      (roster : List ℕ) (part ts : List Triple) → ((t : Triple) → Mem t part → Mem t ts) → slots_bound v roster part ≤ slots_bound v roster ts

  -- ── a shipped summary is at rest ──
  -- 02: "a saturated table": it holds all that the rules give from it, in whatever order; repeats are allowed
  abbrev pub Saturated : List ℕ → Type 0
  Saturated table = (t : Triple) → Derives v (TriplesOf table) t → TriplesOf table t

  -- by any way to map the nodes of triples, with one roster
  module _ (mapped : List Triple → List ℕ) where
    -- the summary of a table, as it is shipped
    abbrev pub shipped : List ℕ → List Triple
    shipped table = sum_by mapped (triples table)

    -- 02: "summarising it again under the same roster yields the same triples and maps each of its nodes to itself"
    pub record AgainBy (table : List ℕ) : Type 0 where
      pub same_triples : sum_by mapped (shipped table) ≡ shipped table
      pub own_nodes : (c : ℕ) → Node (λ t. Mem t (shipped table)) c → label (mapped (shipped table)) c ≡ c
      -- Every other code is absent in the second map, also a node of the table that another represents. So the first map stays of use, and
      -- the second leads on from it to the same representatives.
      pub no_node : (c : ℕ) → (Node (λ t. Mem t (shipped table)) c → ⊥) → label (mapped (shipped table)) c ≡ absent
      pub carried : (c : ℕ) → label (mapped (shipped table)) (label (mapped (triples table)) c) ≡ label (mapped (triples table)) c

    -- 02: "the weak summary of a saturated table is saturated already": nothing is added and nothing is moved
    pub record AtRestBy (table roster : List ℕ) : Type 0 where
      pub saturated : short_by mapped table roster ≡ shipped table
      -- this needs no saturated table: `AgainTheSame`
      pub again : AgainBy table

  -- of an accepted, saturated table
  abbrev pub AtRestHolds : Type 0
  AtRestHolds = (table roster : List ℕ) → Accepted v table roster → Saturated table → AtRestBy (map_of v roster) table roster

  -- 02: "Let this cover the strong summary and every loaded word table as well."
  abbrev pub StrongAtRestHolds : Type 0
  StrongAtRestHolds = (table roster : List ℕ) → Accepted v table roster → Saturated table → AtRestBy (strong_map_of v roster) table roster

  -- of every accepted table, saturated or not
  abbrev pub AgainTheSame : Type 0
  AgainTheSame = (table roster : List ℕ) → Accepted v table roster → AgainBy (map_of v roster) table

  abbrev pub StrongAgainTheSame : Type 0
  StrongAgainTheSame = (table roster : List ℕ) → Accepted v table roster → AgainBy (strong_map_of v roster) table

  -- the saturation of a table is a saturated table
  abbrev pub SaturationSaturated : Type 0
  SaturationSaturated = (table roster : List ℕ) → Accepted v table roster → Saturated (flat (saturation_of table roster))
