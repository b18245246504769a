-- The qTDs of a control request, as a driver lays them out (EHCI 1.0, 3.5 and 4.10; USB 2.0, 8.5.3): its SETUP, its data, its status.
--     Places, place_at x s       where they stand, and where its status leads
--     IsPlace, AreOthers         one of these places; other places than those of another request
--     comes r s t                the stage t is s, or comes after it
--     LeadBehind part o t        the links of the qTD after which a request is over: to that place, or to nothing that is published
--     IsIdle part a              the qTD at a isn't active
--     Leads r x part s t         the links of the qTD of a stage lead to the next stage, also after a short packet; those of the status behind it
--     HasBytes r part s t        the buffer of a SETUP holds the setup bytes, that of a write's data the bytes that are written
--     IsStage e r x part s       the qTD of a stage, whatever its token counts
--     IsFresh e r x part s       as it is published, with the host's side of that stage in its token
use Rattle.std.specs.Prelude.{◌≡◌, ◌≢◌, ℕ, ◌⊎◌, Bool, true, false, List, Option, Some, None}
use Rattle.link_words.specs.declared.fields.ShortLink.{ShortLink}
use Rattle.link_words.specs.declared.kinds.QtdLink.TheVariants.{To}
use Rattle.link_words.specs.Links.{qtd_link_of}
use Rattle.qh_qtd.specs.declared.qtd.Qtd.{Qtd}
use Rattle.dev_control.specs.Stages.{is_read}
use Rattle.hc_host_side.specs.HostToken.{host_at}
use Rattle.law_structures.specs.lent_structures.Structures.{Element, Buffer, Structures}
use Rattle.law_structures.specs.lent_structures.Sound.{element_pages, buffer_name}
use Rattle.claims_report.specs.Requests.{Request}
use Rattle.law_request.specs.Host.{Endpoint, Stage, Setup, Data, Status, has_data, token_at, side_at, next_stage}
use Rattle.hc_copy.specs.Planning.{pid_at}

pub record Places : Type 0 where
  pub setup : ℕ
  pub data_at : ℕ
  pub status : ℕ
  pub behind : Option ℕ  -- where its status leads: the SETUP of the request behind it, or of the last one the tail, if it has one

abbrev pub place_at : Places → Stage → ℕ
place_at x Setup = x.setup
place_at x Data = x.data_at
place_at x _ = x.status

-- one of its qTDs
pub record IsPlace (x : Places) (a : ℕ) : Type 0 where
  pub stage : Stage
  pub is : a ≡ place_at x stage

pub record AreApart (x : Places) : Type 0 where
  pub setup_data : x.setup ≢ x.data_at
  pub setup_status : x.setup ≢ x.status
  pub data_status : x.data_at ≢ x.status

-- another request has other qTDs
abbrev pub AreOthers : Places → Places → Type 0
AreOthers x y = (s t : Stage) → place_at x s ≢ place_at y t

abbrev pub comes : Request → Stage → Stage → Bool
comes r Setup Setup = true
comes r Setup Data = has_data r
comes r Setup Status = true
comes r Data Data = true
comes r Data Status = true
comes r Status Status = true
comes r _ _ = false

-- ---- links

-- both links lead there, or the alternate one is none
pub record LeadTo (t : Qtd) (a : ℕ) : Type 0 where
  pub next : qtd_link_of t.next ≡ To a
  pub alternate : (t.alternate.t ≡ true) ⊎ (qtd_link_of t.alternate ≡ To a)

abbrev pub IsUnpublished : Structures → ShortLink → Type 0
IsUnpublished part link = (a : ℕ) (t : Qtd) → qtd_link_of link ≡ To a → part a ≡ Some (Element t) → t.token.active ≡ false

abbrev pub IsLinkBehind : Structures → Option ℕ → ShortLink → Type 0
IsLinkBehind part None link = IsUnpublished part link
IsLinkBehind part (Some a) link = qtd_link_of link ≡ To a

-- a queue's tail, until a request is published there
pub record IsIdle (part : Structures) (a : ℕ) : Type 0 where
  pub qtd : Qtd
  pub here : part a ≡ Some (Element qtd)
  pub idle : qtd.token.active ≡ false

pub record LeadBehind (part : Structures) (o : Option ℕ) (t : Qtd) : Type 0 where
  pub next : IsLinkBehind part o t.next
  pub alternate : (t.alternate.t ≡ true) ⊎ IsLinkBehind part o t.alternate

abbrev pub Leads : Request → Places → Structures → Stage → Qtd → Type 0
Leads r x part Setup t = LeadTo t (place_at x (next_stage r Setup))
Leads r x part Data t = LeadTo t x.status
Leads r x part _ t = LeadBehind part x.behind t

-- ---- bytes

abbrev pub IsBuffer : Structures → Qtd → List ℕ → Type 0
IsBuffer part t bytes = part (buffer_name t) ≡ Some (Buffer (element_pages t) t.offset bytes)

abbrev pub HasBytes : Request → Structures → Stage → Qtd → Type 0
HasBytes r part Setup t = IsBuffer part t r.setup
HasBytes r part Data t = is_read r.setup ≡ false → IsBuffer part t r.bytes
HasBytes r part _ t = Unit {0}

-- ---- the qTD of a stage

pub record IsStage (e : Endpoint) (r : Request) (x : Places) (part : Structures) (s : Stage) : Type 0 where
  pub qtd : Qtd
  pub here : part (place_at x s) ≡ Some (Element qtd)
  pub pid : pid_at qtd.token.pid ≡ token_at r s
  pub leads : Leads r x part s qtd
  pub bytes : HasBytes r part s qtd

-- the ping state is that of the queue head
pub record IsFresh (e : Endpoint) (r : Request) (x : Places) (part : Structures) (s : Stage) : Type 0 where
  pub stage : IsStage e r x part s
  pub begins : (ping : Bool) → host_at (record stage.qtd.token { ping = ping }) e.max ≡ side_at r e.max ping s
