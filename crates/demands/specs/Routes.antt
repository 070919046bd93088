-- Demand 3 and summaries at rest, over the calls, each on what the call before left. Where a statement supposes an accepted call, its lists
-- are long enough; `AcceptedCalls`, `RoutesOfCallsBy` and `ReworksBy` promise that a call is accepted where they are.
-- Assumes nothing.
use Rattle.std.specs.Prelude.{ℕ, ◌*◌, ◌≤◌, ◌≡◌, Bool, true, false, List, length, take}
use Rattle.model.specs.declared.Triple.{Triple}
use Rattle.model.specs.Triples.{triples, flat, slots}
use Rattle.model.specs.Saturation.{saturation}
use Rattle.model.specs.Classes.{map_of, strong_map_of}
use Rattle.model.specs.Summary.{condensed, summary, strong_summary}
use Rattle.query.specs.declared.Query.{Query}
use Rattle.query.specs.Ask.{wrong_query, retired, ask_outcome}
use Rattle.query.specs.Match.{Match}
use Rattle.model.specs.declared.Vocabulary.{Vocabulary}
use Rattle.model.specs.Codes.{absent, most_triples}
use Rattle.model.specs.Partition.{label}
use Rattle.model.specs.Cliques.{Node}
use Rattle.model.specs.Outcomes.{accepted, refused}
use Rattle.model.specs.Calls.{Accepted, own_roster_outcome, saturate_outcome, saturate_leaves, cliques_outcome, summarise_outcome_by, summarise_leaves_by}
use Rattle.model.specs.Intake.{State, open_outcome}
use Rattle.theory.specs.Theorems.{TriplesOf, saturation_of, sum_by, short_by, Saturated}

-- the table that a call left in its result list: the triples that it counted
abbrev pub table_in : ℕ → List ℕ → List ℕ
table_in count list = take (3 * count) list

-- the lists lent to a summarise
pub record Lent : Type 0 where
  pub result : List ℕ
  pub map : List ℕ
  pub work : List ℕ

-- lists lent to a summarise that are long enough for so many triples
pub record LongEnough (roster : List ℕ) (count : ℕ) (l : Lent) : Type 0 where
  pub map_size : length l.map ≡ length roster
  pub work_size : length l.work ≡ 2 * length roster
  pub room : count ≤ slots l.result

module _ (v : Vocabulary) where
  -- by any way to map the nodes of triples with a roster
  module _ (mapped : List ℕ → List Triple → List ℕ) where
    -- the map of a table
    abbrev map_in : List ℕ → List ℕ → List ℕ
    map_in table roster = mapped roster (triples table)

    -- a summarise that is accepted with a count, and what it leaves
    pub record SummarisesBy (table roster : List ℕ) (l : Lent) (count : ℕ) (out map : List ℕ) : Type 0 where
      pub returns : summarise_outcome_by v (map_in table roster) table roster l.result l.map l.work ≡ accepted count
      pub triples : out ≡ table_in count (summarise_leaves_by v (map_in table roster) table roster l.result l.map l.work).result
      pub representatives : map ≡ (summarise_leaves_by v (map_in table roster) table roster l.result l.map l.work).map

    -- with lists that are long enough a summarise is accepted
    abbrev pub AcceptsSummarise : List ℕ → List ℕ → Type 0
    AcceptsSummarise table roster =
        (l : Lent) → LongEnough roster (length (condensed (map_in table roster) (triples table))) l
        → summarise_outcome_by v (map_in table roster) table roster l.result l.map l.work ≡ accepted (length (condensed (map_in table roster) (triples table)))

  abbrev pub Summarises : List ℕ → List ℕ → Lent → ℕ → List ℕ → List ℕ → Type 0
  Summarises table roster l count out map = SummarisesBy (map_of v) table roster l count out map

  abbrev pub StrongSummarises : List ℕ → List ℕ → Lent → ℕ → List ℕ → List ℕ → Type 0
  StrongSummarises table roster l count out map = SummarisesBy (strong_map_of v) table roster l count out map

  -- a saturate that is accepted with a count, and what it leaves
  pub record Saturates (table roster result : List ℕ) (count : ℕ) (out : List ℕ) : Type 0 where
    pub returns : saturate_outcome v table roster result ≡ accepted count
    pub triples : out ≡ table_in count (saturate_leaves v table roster result)

  -- An ask of this table by this map is refused with 6 or 12 alone, never with 1, 10 or 3: a query that is neither wrong nor retired is
  -- answered.
  pub record Asks (table map : List ℕ) : Type 0 where
    pub answers : (q : Query) → wrong_query (length map) q ≡ false → retired v q ≡ false → (maybe : Bool) × (ask_outcome v table map q ≡ accepted maybe)
    pub refuses : (q : Query) → wrong_query (length map) q ≡ true → ask_outcome v table map q ≡ refused 6
    -- 02: "straight after 6"
    pub retires : (q : Query) → wrong_query (length map) q ≡ false → retired v q ≡ true → ask_outcome v table map q ≡ refused 12

  -- 01: "A table is accepted with a roster if no check before 5 below refuses it; a list is long enough if its length causes no 1, 5 or 7."
  -- On an accepted table, with lists that are long enough, these calls are accepted.
  pub record CallsAccept (table roster : List ℕ) : Type 0 where
    -- own roster into a list of the roster's length
    pub accepts_own_roster : (list : List ℕ) → length list ≡ length roster → own_roster_outcome v table list ≡ accepted tt
    pub saturates : (result : List ℕ) → length (saturation v (length roster) (triples table)) ≤ slots result
        → saturate_outcome v table roster result ≡ accepted (length (saturation v (length roster) (triples table)))
    pub summarises : AcceptsSummarise (map_of v) table roster
    -- 02: "Representatives, lists and checks are those of the weak one."
    pub strongly_summarises : AcceptsSummarise (strong_map_of v) table roster
    pub cliques : (sources targets : List ℕ) → length sources ≡ length roster → length targets ≡ length roster → cliques_outcome v table roster sources targets ≡ accepted tt
    -- an opening with the table's roster
    pub opens : (s : State) → length s.map ≡ length roster → slots s.triples ≡ slots s.summary → slots s.triples ≤ most_triples
        → length s.weights ≡ slots s.triples → open_outcome v roster s ≡ accepted tt
    -- an ask on the table's summary
    pub asks : Asks (flat (summary v roster (triples table))) (map_of v roster (triples table))
    pub asks_strong : Asks (flat (strong_summary v roster (triples table))) (strong_map_of v roster (triples table))

  abbrev pub AcceptedCalls : Type 0
  AcceptedCalls = (table roster : List ℕ) → Accepted v table roster → CallsAccept table roster

  -- the two routes as calls, each on what the call before left: they end with one table, and the maps of the short route lead, one after the
  -- other, where the map of the long route leads
  abbrev pub ShortcutOfCallsBy : (List ℕ → List Triple → List ℕ) → Type 0
  ShortcutOfCallsBy mapped =
      (table roster big small : List ℕ) (l k m : Lent) (a b c d e : ℕ) (sat sum short short_sat short_sum f g h : List ℕ)
      → Saturates table roster big a sat → SummarisesBy mapped sat roster l b sum g
      → SummarisesBy mapped table roster k c short f → Saturates short roster small d short_sat → SummarisesBy mapped short_sat roster m e short_sum h
      → (b ≡ e) × (sum ≡ short_sum) × ((x : ℕ) → label h (label f x) ≡ label g x)

  -- The same in one piece, with no call supposed to be accepted. `sat` and `sum` are what the long route leaves, `short`, `short_sat` and
  -- `short_sum` what the short route leaves; `g` is the long route's map, `f` and `h` are the short route's; `a` to `e` are the counts, in the
  -- order of the five calls.
  pub record RoutesRunBy (mapped : List ℕ → List Triple → List ℕ) (table roster big small : List ℕ) (l k m : Lent) : Type 0 where
    pub sat : List ℕ
    pub sum : List ℕ
    pub short : List ℕ
    pub short_sat : List ℕ
    pub short_sum : List ℕ
    pub f : List ℕ
    pub g : List ℕ
    pub h : List ℕ
    pub a : ℕ
    pub b : ℕ
    pub c : ℕ
    pub d : ℕ
    pub e : ℕ
    pub saturates : Saturates table roster big a sat
    pub summarises : SummarisesBy mapped sat roster l b sum g
    pub short_summarises : SummarisesBy mapped table roster k c short f
    pub short_saturates : Saturates short roster small d short_sat
    pub short_summarises_again : SummarisesBy mapped short_sat roster m e short_sum h
    pub agree : (b ≡ e) × (sum ≡ short_sum) × ((x : ℕ) → label h (label f x) ≡ label g x)
    pub asks : Asks sum g

  -- 01: "A table is accepted .." and "a list is long enough ..": from an accepted table whose saturation is no longer than a table may be, and
  -- lists that are long enough, every call of both routes is accepted, the routes agree, and an ask on the summary is refused with 6 or 12 alone. The
  -- last list needs slots for the long route's summary, because the routes end with one table.
  abbrev pub RoutesOfCallsBy : (List ℕ → List Triple → List ℕ) → Type 0
  RoutesOfCallsBy mapped =
      (table roster big small : List ℕ) (l k m : Lent) → Accepted v table roster
      → length (saturation_of v table roster) ≤ most_triples
      → length (saturation_of v table roster) ≤ slots big
      → LongEnough roster (length (sum_by v (mapped roster) (saturation_of v table roster))) l
      → LongEnough roster (length (sum_by v (mapped roster) (triples table))) k
      → length (short_by v (mapped roster) table roster) ≤ slots small
      → LongEnough roster (length (sum_by v (mapped roster) (saturation_of v table roster))) m
      → RoutesRunBy mapped table roster big small l k m

  abbrev pub RoutesOfCalls : Type 0
  RoutesOfCalls = RoutesOfCallsBy (map_of v)

  abbrev pub StrongRoutesOfCalls : Type 0
  StrongRoutesOfCalls = RoutesOfCallsBy (strong_map_of v)

  abbrev pub ShortcutOfCalls : Type 0
  ShortcutOfCalls = ShortcutOfCallsBy (map_of v)

  -- 02: "Show that the two routes of the shortcut agree here too"
  abbrev pub StrongShortcutOfCalls : Type 0
  StrongShortcutOfCalls = ShortcutOfCallsBy (strong_map_of v)

  -- 02: "the weak summary of the strong summary is the table's own weak summary, with the representatives carried through both maps"
  -- As calls: a strong summarise and a summarise of what it left end with the table that a summarise of the table itself leaves, and their two
  -- maps lead, one after the other, where its map leads.
  abbrev pub WeakOfStrongCalls : Type 0
  WeakOfStrongCalls =
      (table roster : List ℕ) (l k m : Lent) (a b c : ℕ) (strong sum own f g h : List ℕ)
      → StrongSummarises table roster l a strong f → Summarises strong roster k b sum g → Summarises table roster m c own h
      → (b ≡ c) × (sum ≡ own) × ((x : ℕ) → label g (label f x) ≡ label h x)

  -- none means no match, as calls: saturate, summarise, ask
  abbrev pub NoneOfCallsBy : (List ℕ → List Triple → List ℕ) → Type 0
  NoneOfCallsBy mapped =
      (table roster big : List ℕ) (l : Lent) (a b : ℕ) (sat sum g : List ℕ) (q : Query)
      → Saturates table roster big a sat → SummarisesBy mapped sat roster l b sum g
      → ask_outcome v sum g q ≡ accepted false → Match (triples sat) q → ⊥

  abbrev pub NoneOfCalls : Type 0
  NoneOfCalls = NoneOfCallsBy (map_of v)

  -- the same with a strong summarise
  abbrev pub StrongNoneOfCalls : Type 0
  StrongNoneOfCalls = NoneOfCallsBy (strong_map_of v)

  -- ── a shipped summary is at rest ──
  -- by any way to map the nodes of triples with a roster
  module _ (mapped : List ℕ → List Triple → List ℕ) where
    -- 02: "Controllers reload and rework their summary at each boot."
    -- A summary of so many triples, with the map that came with it, is reworked with lists that are long enough for it.
    pub record ReworksBy (summary roster map : List ℕ) (count : ℕ) : Type 0 where
      -- a saturate of it is accepted with its count and leaves its triples
      pub saturates : (result : List ℕ) → count ≤ slots result → Saturates summary roster result count summary
      -- so does a summarise
      pub summarises : (l : Lent) → LongEnough roster count l → SummarisesBy mapped summary roster l count summary (map_in mapped summary roster)
      -- and its map gives each node of the summary itself, and absent for every other code
      pub own_nodes : (x : ℕ) → Node (TriplesOf summary) x → label (map_in mapped summary roster) x ≡ x
      pub no_node : (x : ℕ) → (Node (TriplesOf summary) x → ⊥) → label (map_in mapped summary roster) x ≡ absent
      -- from the map that came with the summary it leads on to the same representatives
      pub carried : (x : ℕ) → label (map_in mapped summary roster) (label map x) ≡ label map x

    -- whatever a summarise of a saturated table left
    abbrev pub AtRestOfCallsBy : Type 0
    AtRestOfCallsBy =
        (table roster : List ℕ) (l : Lent) (count : ℕ) (summary map : List ℕ)
        → Saturated v table → SummarisesBy mapped table roster l count summary map → ReworksBy summary roster map count

  abbrev pub AtRestOfCalls : Type 0
  AtRestOfCalls = AtRestOfCallsBy (map_of v)

  -- 02: "Let this cover the strong summary"
  abbrev pub StrongAtRestOfCalls : Type 0
  StrongAtRestOfCalls = AtRestOfCallsBy (strong_map_of v)

  -- what a saturate left is a saturated table
  abbrev pub LeavesSaturated : Type 0
  LeavesSaturated = (table roster result : List ℕ) (count : ℕ) (out : List ℕ) → Saturates table roster result count out → Saturated v out
