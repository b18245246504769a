-- A store of the frame list that links, and an interrupt endpoint that is opened.
use Rattle.std.proofs.Common.{◌≡◌, suc, ◌+◌, Bool, true, false, cond, nat_lt, [], length, Option, Some, None, ap, sym, subst, ◌∙◌, refl, arith}
use Rattle.std.specs.Prelude.{is_none}
use Rattle.std.proofs.lemmas.Option.{same_Some}
use Rattle.law_driver.proofs.Common.{no_work}
use Rattle.drv_members.specs.Members.{with_schedule, without_member}
use Rattle.drv_periodic.specs.declared.work.Work.{Work}
use Rattle.drv_periodic.specs.Periodic.{Periodic, is_more, members_after, after_work, after_store}
use Rattle.drv_periodic_table.specs.Periodic.{PeriodicContent}
use Rattle.drv_periodic_table.specs.Linking.{with_first, begun_next}
use Rattle.drv_table.specs.declared.content.Command.{Command}
use Rattle.drv_table.specs.declared.content.Command.TheVariants as unfinished
use Rattle.drv_table.specs.DriverContent.{DriverContent}
use Rattle.drv_table.specs.Commands.{events_of, no_command, list_after, or_finished, linked_on, advanced_by}
use Rattle.law_driver.specs.listed_members.Members.{Links, IsUnderWay, IsListed}
use Rattle.law_driver.proofs.lemmas.listed_members.Stays.{SameTables, all_endpoints, all_transfers, tables, tables_list, is_still}

-- the members stay, and what is under way goes on linking
pub record KeepsMembers (p q : Periodic) : Type 0 where
  pub list : q.list ≡ p.list
  pub members : q.members ≡ p.members
  pub links : (w : Work) → q.work ≡ Some w → w.removes ≡ false

pub linked_store : (p : Periodic) → ((w : Work) → p.work ≡ Some w → w.removes ≡ false) → KeepsMembers p (after_store p)
linked_store p links = at p.work refl
  where
    last : (w : Work) (b : Bool) → w.removes ≡ false → KeepsMembers p (cond b (record p { work = Some (record w { made = w.made + 1 }) }) (record { list = p.list; members = members_after p.members w; work = None }))
    last w true off = record { list = refl; members = refl; links = λ v is. ap (λ (u : Work). u.removes) (sym (same_Some (record w { made = w.made + 1 }) v is)) ∙ off }
    last w false off = record {
      list = refl;
      members = ap (λ b. cond b (with_schedule p.members (without_member p.members.schedule w.member)) p.members) off;
      links = λ v is. absurd (cc);
    }

    at : (o : Option Work) → p.work ≡ o → KeepsMembers p (after_work p o)
    at None is = record { list = refl; members = refl; links = links }
    at (Some w) is = last w (is_more p.members.schedule w) (links w is)

pub list_kept : (d : DriverContent) (c : Command) → Links d.periodic → KeepsMembers d.periodic.list (list_after d c)
list_kept d c links = at (nat_lt d.made (length (events_of c)))
  where
    at : (b : Bool) → KeepsMembers d.periodic.list (cond b d.periodic.list (after_store d.periodic.list))
    at true = record { list = refl; members = refl; links = links }
    at false = linked_store d.periodic.list links

-- nothing is queued
pub begun_none : (removes : Bool) (q : PeriodicContent) → q.queued ≡ [] → begun_next removes q ≡ q
begun_none removes q none = at (is_none q.list.work)
  where
    at : (b : Bool) → cond b (with_first removes q q.queued) q ≡ q
    at true = ap (with_first removes q) none
    at false = refl

-- ---- an interrupt endpoint

pub chain_goes : (d : DriverContent) → d.command ≡ Some unfinished.Chain → IsListed d → IsListed (advanced_by d (Some unfinished.Chain))
chain_goes d is old = at (nat_lt (suc d.made) 1)
  where
    still : is_still d.command ≡ true
    still = ap is_still is

    way : Links d.periodic × (d.periodic.queued ≡ [])
    way = subst (λ (c : Option Command). IsUnderWay d c) is old.way

    kept : KeepsMembers d.periodic.list (list_after d unfinished.Chain)
    kept = list_kept d unfinished.Chain way.0

    q : PeriodicContent
    q = record d.periodic { list = list_after d unfinished.Chain }

    g : DriverContent
    g = record d { made = 1; periodic = q }

    tables_g : SameTables d g
    tables_g = record { list = kept.list; members = kept.members; notes = refl; unlinks = refl; placed = λ t. refl; framed = λ i x here. here; many = omega arith; room = omega arith; kept = λ k. k }

    tables_n : SameTables d (no_command g)
    tables_n = record { list = kept.list; members = kept.members; notes = refl; unlinks = refl; placed = λ t. refl; framed = λ i x here. here; many = omega arith; room = omega arith; kept = λ k. k }

    last : (b : Bool) → is_none q.list.work ≡ b → IsListed (cond b (no_command g) g)
    last true none = record { list = tables_list d (no_command g) tables_n still refl old.list; way = record { work = no_work q.list.work none; queued = way.1 } }
    last false some = record { list = tables_list d g tables_g still still old.list; way = subst (λ (c : Option Command). IsUnderWay g c) (sym is) (kept.links, way.1) }

    at : (b : Bool) → IsListed (cond b (record d { made = suc d.made }) (linked_on d unfinished.Chain))
    at true =
        let e = record d { made = suc d.made } in
        record {
          list = tables_list d e (tables d e refl refl refl (all_endpoints d.endpoints) (all_transfers d.transfers) refl) still still old.list;
          way = subst (λ (c : Option Command). IsUnderWay e c) (sym is) way;
        }
    at false =
        subst (λ (p : PeriodicContent). IsListed (or_finished (record d { made = 1; periodic = p }) unfinished.Chain)) (sym (begun_none false q way.1)) (last (is_none q.list.work) refl)
