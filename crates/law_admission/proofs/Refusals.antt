-- Where the open of a periodic endpoint is refused for want of a placement, and where it is accepted.
use Rattle.std.proofs.Common.{◌≡◌, ◌≢◌, ℕ, ◌≤◌, Bool, true, List, [], ◌∷◌, Option, Some, None, Result, Ok, Err, subst, sym, refl, ap, ◌∙◌, arith}
use Rattle.std.specs.Prelude.{◌↔◌, IfErr, is_some, nat_lt, length, if◌then◌else◌}
use Rattle.law_common.proofs.Numbers.{is_less}
use Rattle.usb_base.specs.declared.endpoints.EpDesc.{EpDesc}
use Rattle.usb_base.specs.declared.packets.EpKind.{EpKind}
use Rattle.usb_base.specs.declared.packets.EpKind.TheVariants as kinds
use Rattle.usb_base.specs.declared.commands.Cmd.TheVariants.{OpenEp}
use Rattle.usb_base.specs.declared.reports.OfferError.{OfferError}
use Rattle.usb_base.specs.declared.reports.OfferError.TheVariants as errors
use Rattle.word_mem.specs.Memory.{Mem}
use Rattle.word_mem.specs.Free.{longest_run}
use Rattle.mem_runs.specs.Book.{Holding, holding, take_run}
use Rattle.bandwidth.specs.declared.placements.Placement.{Placement}
use Rattle.bandwidth.specs.declared.placements.Refused.TheVariants.{Room}
use Rattle.bandwidth.specs.Admission.{best, chosen, answer}
use Rattle.bandwidth.proofs.Admits.{best_none, none_best}
use Rattle.drv_periodic_table.specs.Periodic.{is_periodic}
use Rattle.drv_table.specs.declared.content.Command.{Command}
use Rattle.drv_table.specs.declared.content.Endpoint.{Endpoint}
use Rattle.drv_table.specs.DriverContent.{DriverContent}
use Rattle.drv_table.specs.Accepting.{Offered, take_runs}
use Rattle.drv_table.specs.Offers.{taken_open, taken_chain, placed_open, planned_open, offered_open, offered_next, offered}
use Rattle.law_admission.specs.Budgets.{account_of, KeepsBudgets}
use Rattle.drv_table.specs.PeriodicOpens.{asked, PassesBefore, BreaksBudgets}
use Rattle.law_admission.specs.Opens.{IsPlaced, OpenAfter}
use Rattle.law_admission.proofs.Commands.{commands_place_the_best}

has_room : (d : DriverContent) (x : EpDesc) → KeepsBudgets (account_of d) → 1 ≤ d.room.endpoints → PassesBefore d x → nat_lt (length d.periodic.plan.placed) d.periodic.plan.room ≡ true
has_room d x kept some new = is_less (length d.periodic.plan.placed) d.periodic.plan.room (omega (arith, kept.room, some))

-- it comes down to the best placement
pub asks_best : (d : DriverContent) (m : Mem) (x : EpDesc) → KeepsBudgets (account_of d) → 1 ≤ d.room.endpoints → PassesBefore d x → offered d m (OpenEp x) ≡ planned_open d m x (chosen (best d.periodic.plan.rules d.periodic.plan.placed (asked d x)))
asks_best d m x kept some new =
    ap (λ (c : Option Command). if is_some c then Err errors.Busy else offered_next d m (OpenEp x)) new.idle
    ∙ ap (λ (q : Option Endpoint). offered_open d m x q) new.name
    ∙ ap (λ (b : Bool). if b then planned_open d m x (answer d.periodic.plan (asked d x)) else taken_open d x (take_runs (holding d.book m) (2 ∷ 1 ∷ []))) new.kind
    ∙ ap (λ (b : Bool). planned_open d m x (if b then chosen (best d.periodic.plan.rules d.periodic.plan.placed (asked d x)) else Err Room)) (has_room d x kept some new)

-- runs that aren't found are refused for themselves
or_run : (h : Holding) (n : ℕ) (ns : List ℕ) (o : Option Holding) → ((more : Holding) → IfErr (take_runs more ns) (λ why. why ≢ errors.NoPlacement)) → IfErr (elim o [ None ↦ Err (errors.NoBlocks n (longest_run h.memory.states)) | Some more ↦ take_runs more ns ]) (λ why. why ≢ errors.NoPlacement)
or_run h n ns None rest = λ e. cc
or_run h n ns (Some more) rest = rest more

runs_refused : (ns : List ℕ) (h : Holding) → IfErr (take_runs h ns) (λ why. why ≢ errors.NoPlacement)
runs_refused [] h = tt
runs_refused (n ∷ ns) h = or_run h n ns (take_run h n) (λ more. runs_refused ns more)

why_is : (a b : OfferError) → ◌≡◌ {A = Result Offered OfferError} (Err a) (Err b) → a ≡ b
why_is a b e = cc

chain_refused : (d : DriverContent) (x : EpDesc) (p : Placement) (r : Result Holding OfferError) → IfErr r (λ why. why ≢ errors.NoPlacement) → taken_chain d x p r ≡ Err errors.NoPlacement → ⊥
chain_refused d x p (Ok h) ok e = absurd (cc)
chain_refused d x p (Err why) ok e = ok (why_is why errors.NoPlacement e)

placed_refused : (d : DriverContent) (m : Mem) (x : EpDesc) (p : Placement) (k : EpKind) → placed_open d m x p k ≡ Err errors.NoPlacement → ⊥
placed_refused d m x p kinds.Iso e = absurd (cc)
placed_refused d m x p _ e = chain_refused d x p (take_runs (holding d.book m) (2 ∷ 1 ∷ [])) (runs_refused (2 ∷ 1 ∷ []) (holding d.book m)) e

chosen_refused : (d : DriverContent) (m : Mem) (x : EpDesc) (b : Option Placement) → best d.periodic.plan.rules d.periodic.plan.placed (asked d x) ≡ b → planned_open d m x (chosen b) ≡ Err errors.NoPlacement → BreaksBudgets d x
chosen_refused d m x None is e = best_none d.periodic.plan.rules d.periodic.plan.placed (asked d x) is
chosen_refused d m x (Some p) is e = absurd (placed_refused d m x p x.kind e)

pub refused_where_none_fits : (d : DriverContent) (m : Mem) (x : EpDesc) → KeepsBudgets (account_of d) → 1 ≤ d.room.endpoints → PassesBefore d x → (offered d m (OpenEp x) ≡ Err errors.NoPlacement) ↔ BreaksBudgets d x
refused_where_none_fits d m x kept some new = (
  λ e. chosen_refused d m x (best d.periodic.plan.rules d.periodic.plan.placed (asked d x)) refl (sym (asks_best d m x kept some new) ∙ e),
  λ all. asks_best d m x kept some new ∙ ap (λ (b : Option Placement). planned_open d m x (chosen b)) (none_best d.periodic.plan.rules d.periodic.plan.placed (asked d x) all),
)

pub accepted_where_it_fits : (d : DriverContent) (m : Mem) (x : EpDesc) (o : Offered) → is_periodic x.kind ≡ true → offered d m (OpenEp x) ≡ Ok o → IsPlaced d x o
accepted_where_it_fits d m x o kind is = subst (λ (b : Bool). OpenAfter d x o b) kind (commands_place_the_best d m (OpenEp x) o is)
