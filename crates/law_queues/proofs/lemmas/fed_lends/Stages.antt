-- The stages of a get, a put or a request, as the qTD of each is fed: how many bytes it has, what its first one asks for, and where a short packet leads.
use Rattle.std.proofs.Common.{◌≡◌, ℕ, ◌≤◌, Bool, true, false, not, nat_eq, cond, List, [], ◌∷◌, inl, inr, ap, sym, subst, ◌∙◌, refl, arith}
use Rattle.std.specs.List.{AllByRecursion}
use Rattle.usb_base.specs.declared.packets.Way.{Way}
use Rattle.usb_base.specs.declared.packets.Way.TheVariants as ways
use Rattle.word_mem.specs.Memory.{Mem}
use Rattle.drv_table.specs.declared.content.Sort.{Sort}
use Rattle.drv_table.specs.declared.content.Stage.{Stage}
use Rattle.drv_table.specs.Words.{asks_in, alternate_link, setup_stage, data_stage, status_stage, request_length}
use Rattle.drv_table.specs.DriverContent.{DriverContent}
use Rattle.drv_table.specs.Accepting.{Offered}
use Rattle.drv_table.specs.Offers.{Asked}
use Rattle.law_driver.specs.chained_transfers.Asynchronous.{IsRequested}
use Rattle.law_driver.specs.chained_transfers.Bulk.{IsDataWay, sort_by, stage_by, pid_by}
use Rattle.law_driver.proofs.lemmas.chained_transfers.Ways.{IsBy, its_told, its_pid, its_pid_few, all_of_all}
use Rattle.law_driver_ring.specs.fed_queues.Fed.{IsAlternate, size_of}
use Rattle.law_driver_ring.proofs.lemmas.fed_queues.Sized.{told_size, way_told}
use Rattle.law_queues.specs.fed_lends.ToLend.{AreStagesBy}

-- ---- one stage

-- a short packet leads where those of such a transfer do
abbrev pub LeadsAs : Sort → Stage → Type 0
LeadsAs sort s = (next dummy : ℕ) → IsAlternate sort (alternate_link s.alternate next dummy) next dummy

-- the first one: a SETUP has eight bytes, of which none are told
pub record IsFirst (way : Way) (s : Stage) : Type 0 where
  pub size : size_of (sort_by way) 0 s.told ≡ s.long
  pub leads : LeadsAs (sort_by way) s
  pub pid : s.pid ≡ pid_by way

pub record IsLater (sort : Sort) (s : Stage) : Type 0 where
  pub told : s.told ≡ s.long
  pub leads : LeadsAs sort s

abbrev pub AreOf : Way → List Stage → Type 0
AreOf way [] = Unit {0}
AreOf way (s ∷ ss) = IsFirst way s × AllByRecursion (IsLater (sort_by way)) ss

abbrev pub HaveFewPids : List Stage → Type 0
HaveFewPids ss = AllByRecursion (λ (s : Stage). s.pid ≤ 2) ss

-- ---- a get or a put

-- a short packet leads a get to the end, and a put has none
data_leads : (way : Way) (n : ℕ) → IsDataWay way → LeadsAs (sort_by way) (stage_by way n)
data_leads ways.Ctl n one next dummy = absurd one
data_leads _ n one next dummy = refl

leads_by : (way : Way) (s : Stage) → IsDataWay way → IsBy way s → LeadsAs (sort_by way) s
leads_by way s one is = subst (LeadsAs (sort_by way)) (sym is) (data_leads way s.long one)

data_first : (way : Way) (s : Stage) → IsDataWay way → IsBy way s → IsFirst way s
data_first way s one is = record {
  size = told_size (sort_by way) 0 s.told (way_told way one) ∙ its_told way s is;
  leads = leads_by way s one is;
  pid = its_pid way s one is;
}

data_later : (way : Way) (s : Stage) → IsDataWay way → IsBy way s → IsLater (sort_by way) s
data_later way s one is = record { told = its_told way s is; leads = leads_by way s one is }

data_are : (way : Way) (ss : List Stage) → IsDataWay way → AllByRecursion (IsBy way) ss → AreOf way ss
data_are way [] one all = tt
data_are way (s ∷ ss) one all = (data_first way s one all.0, all_of_all (IsBy way) (IsLater (sort_by way)) ss (λ r is. data_later way r one is) all.1)

data_pids : (way : Way) (ss : List Stage) → AllByRecursion (IsBy way) ss → HaveFewPids ss
data_pids way ss all = all_of_all (IsBy way) (λ (s : Stage). s.pid ≤ 2) ss (its_pid_few way) all

-- the stages of a get or put, by their way
pub by_data : (way : Way) (ss : List Stage) → IsDataWay way → AllByRecursion (IsBy way) ss → AreStagesBy way ss
by_data ways.Ctl ss one all = absurd one
by_data _ ss one all = all

-- .. and back
pub data_by : (way : Way) (ss : List Stage) → IsDataWay way → AreStagesBy way ss → AllByRecursion (IsBy way) ss
data_by ways.Ctl ss one all = absurd one
data_by _ ss one all = all

-- ---- a request

setup_first : IsFirst ways.Ctl setup_stage
setup_first = record { size = refl; leads = λ next dummy. inl refl; pid = refl }

data_then : (to_host : Bool) (n : ℕ) → IsLater (sort_by ways.Ctl) (data_stage to_host n)
data_then to_host n = record { told = refl; leads = λ next dummy. inr refl }

status_then : (to_host : Bool) → IsLater (sort_by ways.Ctl) (status_stage to_host)
status_then to_host = record { told = refl; leads = λ next dummy. inl refl }

way_pid : (to_host : Bool) → cond to_host 1 0 ≤ 2
way_pid true = omega arith
way_pid false = omega arith

-- without data its status follows its SETUP
abbrev stages_if : Bool → Bool → ℕ → List Stage
stages_if none to_host n = cond none (setup_stage ∷ status_stage true ∷ []) (setup_stage ∷ data_stage to_host n ∷ status_stage (not to_host) ∷ [])

request_are : (none to_host : Bool) (n : ℕ) → AreOf ways.Ctl (stages_if none to_host n)
request_are true to_host n = (setup_first, (status_then true, tt))
request_are false to_host n = (setup_first, (data_then to_host n, (status_then (not to_host), tt)))

request_pids : (none to_host : Bool) (n : ℕ) → HaveFewPids (stages_if none to_host n)
request_pids true to_host n = (omega arith, (omega arith, tt))
request_pids false to_host n = (omega arith, (way_pid to_host, (way_pid (not to_host), tt)))

-- those of a request to a control endpoint
pub requested_by : (d : DriverContent) (m : Mem) (o : Offered) (why : IsRequested d m o) → AreStagesBy why.transfers.endpoint.desc.name.way why.transfers.asked.stages
requested_by d m o why = subst (λ (w : Way). AreStagesBy w why.transfers.asked.stages) (sym why.way) (why.setup, ap (λ (a : Asked). a.stages) why.asked)

-- ---- all of them

pub stages_are : (way : Way) (ss : List Stage) → AreStagesBy way ss → AreOf way ss
stages_are ways.In ss all = data_are ways.In ss tt all
stages_are ways.Out ss all = data_are ways.Out ss tt all
stages_are ways.Ctl ss asked = subst (AreOf ways.Ctl) (sym asked.1) (request_are (nat_eq (request_length asked.0) 0) (asks_in asked.0) (request_length asked.0))

pub stages_pids : (way : Way) (ss : List Stage) → AreStagesBy way ss → HaveFewPids ss
stages_pids ways.In ss all = data_pids ways.In ss all
stages_pids ways.Out ss all = data_pids ways.Out ss all
stages_pids ways.Ctl ss asked = subst HaveFewPids (sym asked.1) (request_pids (nat_eq (request_length asked.0) 0) (asks_in asked.0) (request_length asked.0))
