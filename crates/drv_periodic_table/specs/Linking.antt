-- The frame list while a command of the driver links and unlinks its members, one store at a time (EHCI 1.0, 3.1 and 4.6). What may not be
-- linked or unlinked isn't begun, and the list stays as it is; that each test here is passed isn't said by these definitions.
--     may_link p m, may_unlink p m     nothing is under way, and m is new and has room; and m is linked
--     linking p m, unlinking p m       it is begun, where it may be
--     new_link p m                     the link word that m has before it is linked: to the one behind it
--     begun_next removes q             the next member of the command is begun, where nothing is under way
use Rattle.std.specs.Prelude.{ℕ, Bool, ◌&&◌, is_none, List, [], ◌∷◌, if◌then◌else◌}
use Rattle.drv_chains.specs.declared.members.Member.{Member}
use Rattle.drv_chains.specs.Chains.{successor}
use Rattle.drv_members.specs.Members.{is_member, is_linked, takes, with_member, frame_of}
use Rattle.drv_periodic.specs.Periodic.{Periodic, link_to, inserting, removing}
use Rattle.drv_periodic_table.specs.Periodic.{PeriodicContent}

abbrev pub may_link : Periodic → Member → Bool
may_link p m = is_none p.work && takes p.members m

abbrev pub may_unlink : Periodic → Member → Bool
may_unlink p m = is_none p.work && (is_member m && is_linked p.members.schedule m)

abbrev pub linking : Periodic → Member → Periodic
linking p m = if may_link p m then inserting p m else p

abbrev pub unlinking : Periodic → Member → Periodic
unlinking p m = if may_unlink p m then removing p m else p

-- 1 ends a list
abbrev pub new_link : Periodic → Member → ℕ
new_link p m = if may_link p m then link_to (successor (with_member p.members.schedule m) m (frame_of m)) else 1

abbrev pub begun : Bool → Periodic → Member → Periodic
begun removes p m = if removes then unlinking p m else linking p m

abbrev pub with_first : Bool → PeriodicContent → List Member → PeriodicContent
with_first removes q [] = q
with_first removes q (m ∷ ms) = record q { list = begun removes q.list m; queued = ms }

abbrev pub begun_next : Bool → PeriodicContent → PeriodicContent
begun_next removes q = if is_none q.list.work then with_first removes q q.queued else q
