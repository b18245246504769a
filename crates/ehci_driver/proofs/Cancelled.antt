-- What stands once the cancel of a periodic endpoint was accepted, or a descriptor was told.
use Rattle.std.proofs.Common.{◌≡◌, ℕ, ◌-◌, true, cond, List, [], ◌∷◌, ◌++◌, length, take, map, filter, set, Some, ap, ◌∙◌}
use Rattle.usb_base.specs.declared.reports.Report.{Report}
use Rattle.usb_base.specs.declared.reports.What.TheVariants as lines
use Rattle.word_mem.specs.Memory.{Mem}
use Rattle.bandwidth.specs.declared.placements.Placement.{Placement}
use Rattle.drv_chains.specs.declared.members.Member.{Member}
use Rattle.drv_frames_content.specs.Part.{Held, with_periodic, with_queued}
use Rattle.drv_periodic_table.specs.Periodic.{PeriodicContent, note_at, descriptor_member, queue_member}
use Rattle.drv_periodic_table.specs.Linking.{begun_next}
use Rattle.drv_periodic_table.specs.Descriptors.{told_bytes}
use Rattle.drv_table.specs.declared.content.Endpoint.{Endpoint}
use Rattle.drv_table.specs.declared.content.Transfer.{Transfer}
use Rattle.drv_table.specs.declared.content.Command.TheVariants as unfinished
use Rattle.drv_table.specs.DriverContent.{DriverContent, next_after, waits_for}
use Rattle.drv_table.specs.CancelOffers.{with_cancel, endpoint_members, first_end}
use Rattle.drv_table.specs.Harvesting.{descriptor_told}
use Rattle.drv_table.specs.Kinds.{is_iso}

-- v is the driver as its fields show it
pub unchain_made : (v d : DriverContent) (e : ℕ) (x : Endpoint) (p : Placement) (xs : List Endpoint) (q : PeriodicContent) → v ≡ d → xs ≡ set v.endpoints e (record x { cancelled = true; ended = first_end x.ended }) → q ≡ begun_next true (record v.periodic { queued = endpoint_members v e x p }) → record v { endpoints = xs; command = Some (unfinished.Unchain e); made = 0; room = record v.room { reports = v.room.reports - 1 }; periodic = q } ≡ with_cancel d e x (endpoint_members d e x p)
unchain_made v d e x p xs q same these part =
    ap (λ (ys : List Endpoint). record v { endpoints = ys; command = Some (unfinished.Unchain e); made = 0; room = record v.room { reports = v.room.reports - 1 }; periodic = q }) these
    ∙ ap (λ (r : PeriodicContent). record v { endpoints = set v.endpoints e (record x { cancelled = true; ended = first_end x.ended }); command = Some (unfinished.Unchain e); made = 0; room = record v.room { reports = v.room.reports - 1 }; periodic = r }) part
    ∙ ap (λ (w : DriverContent). with_cancel w e x (endpoint_members w e x p)) same

pub served_made : (v d : DriverContent) (m : Mem) (e t : ℕ) (x : Endpoint) (y : Transfer) (errors : ℕ) (told : List Report) (bytes : List ℕ) (xs : List Endpoint) (ts : List Transfer) (q : PeriodicContent) → v ≡ d → bytes ≡ v.store ++ take y.most (told_bytes (note_at v.periodic.notes y.first) m y.first) → told ≡ v.reports ++ (record { name = x.desc.name; what = lines.Iso errors; from = length v.store; len = length (take y.most (told_bytes (note_at v.periodic.notes y.first) m y.first)) }) ∷ [] → xs ≡ set v.endpoints e (record x { next = next_after v.transfers e t }) → ts ≡ set v.transfers t (record y { reported = true }) → q ≡ record v.periodic { unlinks = v.periodic.unlinks ++ t ∷ [] } → record v { store = bytes; reports = told; endpoints = xs; transfers = ts; periodic = q } ≡ descriptor_told d m e t x y errors
served_made v d m e t x y errors told bytes xs ts q same b l es us part =
    let line : Report = record { name = x.desc.name; what = lines.Iso errors; from = length v.store; len = length (take y.most (told_bytes (note_at v.periodic.notes y.first) m y.first)) } in
    let all = v.store ++ take y.most (told_bytes (note_at v.periodic.notes y.first) m y.first) in
    ap (λ (r : List ℕ). record v { store = r; reports = told; endpoints = xs; transfers = ts; periodic = q }) b
    ∙ ap (λ (r : List Report). record v { store = all; reports = r; endpoints = xs; transfers = ts; periodic = q }) l
    ∙ ap (λ (r : List Endpoint). record v { store = all; reports = v.reports ++ line ∷ []; endpoints = r; transfers = ts; periodic = q }) es
    ∙ ap (λ (r : List Transfer). record v { store = all; reports = v.reports ++ line ∷ []; endpoints = set v.endpoints e (record x { next = next_after v.transfers e t }); transfers = r; periodic = q }) us
    ∙ ap (λ (r : PeriodicContent). record v { store = all; reports = v.reports ++ line ∷ []; endpoints = set v.endpoints e (record x { next = next_after v.transfers e t }); transfers = set v.transfers t (record y { reported = true }); periodic = r }) part
    ∙ ap (λ (w : DriverContent). descriptor_told w m e t x y errors) same

-- ---- the members that leave

abbrev pub members_at : PeriodicContent → List Transfer → ℕ → Endpoint → Placement → List Member
members_at q ts e x p = cond (is_iso x.desc.kind) (map (λ (t : Transfer). descriptor_member q.notes t.first) (filter (waits_for e) ts)) (queue_member x.queue p ∷ [])

pub unchained_part : (h g k : Held) (ts us : List Transfer) (e : ℕ) (x : Endpoint) (p : Placement) → g ≡ with_queued h (members_at h.periodic ts e x p) → k ≡ with_periodic g (begun_next true g.periodic) → ts ≡ us → k.periodic ≡ begun_next true (record h.periodic { queued = members_at h.periodic us e x p })
unchained_part h g k ts us e x p one two same =
    ap (λ (r : Held). r.periodic) two
    ∙ ap (λ (r : Held). begun_next true r.periodic) one
    ∙ ap (λ (vs : List Transfer). begun_next true (record h.periodic { queued = members_at h.periodic vs e x p })) same
