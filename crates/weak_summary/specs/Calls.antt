-- What each call answers and leaves: its status, and the lent numbers and lists before and after it. The contracts of look up
-- and of a subject's lines stand at the calls.
-- Assumes nothing.
use Rattle.std.specs.Prelude.{ℕ, ◌≡◌, Bool, true, cond, not, ◌&&◌, List, [], ◌∷◌, eqb, length, Result, Ok, Err}
use Rattle.model.specs.declared.Refusal.{Refusal}
use Rattle.model.specs.declared.Triple.{Triple}
use Rattle.model.specs.declared.Vocabulary.{Vocabulary}
use Rattle.model.specs.Codes.{codes}
use Rattle.model.specs.Lists.{zeros}
use Rattle.model.specs.declared.Side.TheVariants.{Source as source, Target as target}
use Rattle.model.specs.Outcomes.{Outcome, refused, Answer, Said, refusal_number, check, decided}
use Rattle.model.specs.Calls.{Summarised, own_roster_outcome, own_roster_leaves, saturate_outcome, saturate_leaves, cliques_outcome, cliques_leave}
use Rattle.model.specs.Calls.{summarise_outcome, summarise_leaves, strong_summarise_outcome, strong_summarise_leaves}
use Rattle.model.specs.Intake.{State, open_outcome, open_leaves, Fed, Removes}
use Rattle.query.specs.Ask.{ask_outcome}
use Rattle.site_form.specs.declared.Site.{Site}
use Rattle.site_form.specs.Reading.{read_outcome, read_site, read_list}
use Rattle.site_form.specs.Writing.{write_outcome, write_list}
use Rattle.call_numbers.specs.Status.{status_of, bits, new_bit, Stores, Reports, ReportsPlace}
use Rattle.flat_queries.specs.Flat.{flat_query, flat_queries}
use Rattle.call_numbers.specs.Words.{ByWords}

-- the status of a text: 0 where it was read
unfoldable pub form_status : Result Site Refusal → ℕ
form_status (Ok site) = 0
form_status (Err r) = refusal_number r

-- what is lent to the call that reads: the list of triples, the flat queries, the five reserved codes, and three numbers
pub record ReadLent : Type 0 where
  pub list : List ℕ
  pub queries : List ℕ
  pub words : List ℕ
  pub size : ℕ
  pub count : ℕ
  pub asks : ℕ

abbrev pub lent : List ℕ → List ℕ → List ℕ → ℕ → ℕ → ℕ → ReadLent
lent list queries words size count asks = record { list = list; queries = queries; words = words; size = size; count = count; asks = asks }

-- a list for the flat queries of another length than 656, or one for the codes of another length than 5, is 1, before the text is looked at
unfoldable pub right_lengths : ReadLent → Bool
right_lengths s = eqb (length s.queries) 656 && eqb (length s.words) 5

unfoldable pub flat_read_outcome : List ℕ → ReadLent → Outcome Site
flat_read_outcome text s = decided (check 1 (not (right_lengths s)) ∷ []) (read_outcome text s.list)

-- what a site read leaves
abbrev pub site_leaves : List ℕ → Site → ReadLent
site_leaves list site = lent list (flat_queries site.queries) (codes site.words) site.size site.count site.asks

-- 01: "with a refusal N is 0 and there are no queries"; 02: "Reading returns the five unchecked, or 0 to 4 where it refuses". That is `read_site`.
-- After the 1 above nothing is altered.
unfoldable pub flat_read_leaves : List ℕ → ReadLent → ReadLent
flat_read_leaves text s = cond (right_lengths s) (site_leaves (read_list text s.list) (read_site text s.list)) s

-- reading: the status, and what was lent after it
pub record ReadStatus (text : List ℕ) (s : ReadLent) (status : ℕ) (after : ReadLent) : Type 0 where
  pub answer : status ≡ status_of (flat_read_outcome text s)
  pub leaves : after ≡ flat_read_leaves text s

-- after 8 and 5 all that was lent is zero, but for the codes, which are 0 to 4
abbrev pub RefusedReadIsZero : Type 0
RefusedReadIsZero = (text : List ℕ) (s : ReadLent) (r : ℕ) → right_lengths s ≡ true → flat_read_outcome text s ≡ refused r
    → flat_read_leaves text s ≡ lent (zeros (length s.list)) (zeros 656) (0 ∷ 1 ∷ 2 ∷ 3 ∷ 4 ∷ []) 0 0 0

module _ (v : Vocabulary) where
  -- a flat query of another length than 41 is 1, before ask's checks
  unfoldable pub flat_ask_outcome : List ℕ → List ℕ → List ℕ → Outcome Bool
  flat_ask_outcome table map query = decided (check 1 (not (eqb (length query) 41)) ∷ []) (ask_outcome v table map (flat_query query))

  -- opening: the status, and the lists and counts after it
  pub record OpenStatus (roster : List ℕ) (s : State) (status : ℕ) (after : State) : Type 0 where
    pub answer : status ≡ status_of (open_outcome v roster s)
    pub leaves : after ≡ open_leaves v roster (open_outcome v roster s) s

  -- feeding: the status and the numbers `new` and `place` tell an outcome, and of that outcome holds what a feed promises
  pub record FeedStatus (roster : List ℕ) (s : State) (work : List ℕ) (t : Triple) (new status new' place' : ℕ) (after : State) (work' : List ℕ) : Type 0 where
    pub outcome : Outcome (Answer Said)
    pub fed : Fed v roster s work t outcome after work'
    pub reports : Reports new_bit outcome new status new' place'

  -- removing: the status and the number `place` tell an outcome, and of that outcome holds what a removal promises
  pub record RemoveStatus (roster : List ℕ) (s : State) (work : List ℕ) (t : Triple) (status place' : ℕ) (after : State) (work' : List ℕ) : Type 0 where
    pub outcome : Outcome (Answer Said)
    pub removed : Removes v roster s work t outcome after work'
    pub reports : ReportsPlace outcome status place'

-- ── the calls that are lent the five codes as a list ──
-- own roster: roster (lent)
abbrev pub OwnRosterByWords : (words table roster : List ℕ) (status : ℕ) (roster' : List ℕ) → Type 0
OwnRosterByWords words table roster status roster' =
    ByWords words ((status ≡ 1) × (roster' ≡ roster))
    (λ v. (status ≡ status_of (own_roster_outcome v table roster)) × (roster' ≡ own_roster_leaves v table roster))

-- saturate: result (lent), count (lent)
abbrev pub SaturateByWords : (words table roster result : List ℕ) (count status : ℕ) (result' : List ℕ) (count' : ℕ) → Type 0
SaturateByWords words table roster result count status result' count' =
    ByWords words ((status ≡ 1) × (count' ≡ count) × (result' ≡ result))
    (λ v. Stores (saturate_outcome v table roster result) count status count' × (result' ≡ saturate_leaves v table roster result))

-- cliques: sources (lent), targets (lent)
abbrev pub CliquesByWords : (words table roster sources targets : List ℕ) (status : ℕ) (sources' targets' : List ℕ) → Type 0
CliquesByWords words table roster sources targets status sources' targets' =
    ByWords words ((status ≡ 1) × (sources' ≡ sources) × (targets' ≡ targets))
    (λ v.
    (status ≡ status_of (cliques_outcome v table roster sources targets))
    × (sources' ≡ cliques_leave v source table roster sources targets)
    × (targets' ≡ cliques_leave v target table roster sources targets))

-- a summarise, by its outcome and what it leaves: result (lent), map (lent), work (lent), count (lent)
module _ (outcome : Vocabulary → (table roster result map work : List ℕ) → Outcome ℕ) (leaves : (v : Vocabulary) (table roster result map work : List ℕ) → Summarised v) where
  abbrev pub AnySummariseByWords : (words table roster result map work : List ℕ) (count status : ℕ) (result' map' work' : List ℕ) (count' : ℕ) → Type 0
  AnySummariseByWords words table roster result map work count status result' map' work' count' =
      ByWords words ((status ≡ 1) × (count' ≡ count) × (result' ≡ result) × (map' ≡ map) × (work' ≡ work))
      (λ v.
      Stores (outcome v table roster result map work) count status count'
      × (record { result = result'; map = map'; work = work' } ≡ leaves v table roster result map work))

abbrev pub SummariseByWords : (words table roster result map work : List ℕ) (count status : ℕ) (result' map' work' : List ℕ) (count' : ℕ) → Type 0
SummariseByWords = AnySummariseByWords summarise_outcome summarise_leaves

abbrev pub SummariseStrongByWords : (words table roster result map work : List ℕ) (count status : ℕ) (result' map' work' : List ℕ) (count' : ℕ) → Type 0
SummariseStrongByWords = AnySummariseByWords strong_summarise_outcome strong_summarise_leaves

-- ask: maybe (lent)
abbrev pub AskByWords : (words table map query : List ℕ) (maybe status maybe' : ℕ) → Type 0
AskByWords words table map query maybe status maybe' =
    ByWords words ((status ≡ 1) × (maybe' ≡ maybe)) (λ v. Stores (bits (flat_ask_outcome v table map query)) maybe status maybe')

-- opening: the lists and counts (lent)
abbrev pub OpenByWords : (words roster : List ℕ) (s : State) (status : ℕ) (after : State) → Type 0
OpenByWords words roster s status after = ByWords words ((status ≡ 1) × (after ≡ s)) (λ v. OpenStatus v roster s status after)

-- feeding: the lists and counts, the work list and the numbers `new` and `place` (lent); the place is 0 after a refusal, whatever it was
abbrev pub FeedByWords : (words roster : List ℕ) (s : State) (work : List ℕ) (new : ℕ) (t : Triple) (status : ℕ) (after : State) (work' : List ℕ) (new' place' : ℕ) → Type 0
FeedByWords words roster s work new t status after work' new' place' =
    ByWords words ((status ≡ 1) × (new' ≡ new) × (place' ≡ 0) × (work' ≡ work) × (after ≡ s)) (λ v. FeedStatus v roster s work t new status new' place' after work')

-- removing: the lists and counts, the work list and the number `place` (lent)
abbrev pub RemoveByWords : (words roster : List ℕ) (s : State) (work : List ℕ) (t : Triple) (status : ℕ) (after : State) (work' : List ℕ) (place' : ℕ) → Type 0
RemoveByWords words roster s work t status after work' place' =
    ByWords words ((status ≡ 1) × (place' ≡ 0) × (work' ≡ work) × (after ≡ s)) (λ v. RemoveStatus v roster s work t status place' after work')

-- writing: out (lent), count (lent)
abbrev pub WriteByWords : (words : List ℕ) (n : ℕ) (table out : List ℕ) (count status : ℕ) (out' : List ℕ) (count' : ℕ) → Type 0
WriteByWords words n table out count status out' count' =
    ByWords words ((status ≡ 1) × (count' ≡ count) × (out' ≡ out))
    (λ v. Stores (write_outcome v n table out) count status count' × (out' ≡ write_list v n table out))
