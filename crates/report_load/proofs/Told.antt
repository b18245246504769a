-- The line of a summary, as it is put together.
use Rattle.std.proofs.Common.{◌≡◌, ℕ, List, [], ◌∷◌, ◌++◌, append_assoc, ◌∙◌}
use Rattle.std.specs.Prelude.{codes}
use Rattle.std.specs.Fmt.{decimal}
use Rattle.report_text.specs.ReportText.{line_text}
use Rattle.report_load.specs.Summary.{summary_line}
use Rattle.report_load.specs.declared.summary.Summary.{Summary}

nested : (p a q b r c s d t e u f z : List ℕ) → (((((([] ++ (p ++ a)) ++ (q ++ b)) ++ (r ++ c)) ++ (s ++ d)) ++ (t ++ e)) ++ (u ++ f)) ++ z ≡ p ++ (a ++ (q ++ (b ++ (r ++ (c ++ (s ++ (d ++ (t ++ (e ++ (u ++ (f ++ z)))))))))))
nested p a q b r c s d t e u f z = simp append_assoc

joined : (a b c d e f : List ℕ) →
    codes "load " ++ (a ++ (codes " endpoints 40 refused " ++ (b ++ (codes " done " ++ (c ++ (codes " halted " ++ (d ++ (codes " pending " ++ (e ++ (codes " bytes " ++ (f ++ 10 ∷ [])))))))))))
    ≡ line_text (codes "load" ∷ a ∷ codes "endpoints" ∷ codes "40" ∷ codes "refused" ∷ b ∷ codes "done" ∷ c ∷ codes "halted" ∷ d ∷ codes "pending" ∷ e ∷ codes "bytes" ∷ f ∷ [])
joined a b c d e f = simp append_assoc

whole : (a b c d e f : List ℕ) →
    (((((([] ++ (codes "load " ++ a)) ++ (codes " endpoints 40 refused " ++ b)) ++ (codes " done " ++ c)) ++ (codes " halted " ++ d)) ++ (codes " pending " ++ e)) ++ (codes " bytes " ++ f)) ++ 10 ∷ []
    ≡ line_text (codes "load" ∷ a ∷ codes "endpoints" ∷ codes "40" ∷ codes "refused" ∷ b ∷ codes "done" ∷ c ∷ codes "halted" ∷ d ∷ codes "pending" ∷ e ∷ codes "bytes" ∷ f ∷ [])
whole a b c d e f =
    nested (codes "load ") a (codes " endpoints 40 refused ") b (codes " done ") c (codes " halted ") d (codes " pending ") e (codes " bytes ") f (10 ∷ []) ∙ joined a b c d e f

pub line_told : (n : ℕ) (s : Summary) (a b c d e f g h : List ℕ) → a ≡ [] → b ≡ a ++ (codes "load " ++ decimal n) → c ≡ b ++ (codes " endpoints 40 refused " ++ decimal s.refused) → d ≡ c ++ (codes " done " ++ decimal s.done)
    → e ≡ d ++ (codes " halted " ++ decimal s.halted) → f ≡ e ++ (codes " pending " ++ decimal s.pending) → g ≡ f ++ (codes " bytes " ++ decimal s.bytes) → h ≡ g ++ 10 ∷ [] → h ≡ summary_line n s
line_told n s a b c d e f g h pa pb pc pd pe pf pg ph = rw (ph, pg, pf, pe, pd, pc, pb, pa) (whole (decimal n) (decimal s.refused) (decimal s.done) (decimal s.halted) (decimal s.pending) (decimal s.bytes))
