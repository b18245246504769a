-- Runs one after the other, and what they leave of the text.
use Rattle.std.proofs.Common.{◌≡◌, ℕ, List, [], ◌∷◌, ◌++◌, refl, ap, sym, subst, ◌∙◌, inl, inr, Result, Ok, Err, IfOk}
use Rattle.app_trace_lines.specs.declared.entries.Entry.{Entry}
use Rattle.app_trace_lines.specs.declared.entries.Work.{Work}
use Rattle.bus_packets.specs.declared.exchanges.Passed.{Passed}
use Rattle.std.specs.List.{flat_map}
use Rattle.std.proofs.lemmas.Grind.{flat_map-append}
use Rattle.std.proofs.lemmas.List.{append_assoc, append-nil}
use Rattle.app_trace.specs.declared.choice.Choice.{Choice}
use Rattle.app_trace.specs.Watched.{Watched, Told, HasBytes, IsEvent, IsControlled, IsDriven, IsCommanded}
use Rattle.app_trace.specs.Chosen.{chosen_line}
use Rattle.app_trace.specs.Traced.{Runs, Traces, Goes, Puts}

runs_on : (m n o : Watched) (ts us : List Told) → Runs m ts n → Runs n us o → Runs m (ts ++ us) o
runs_on m n o [] us a b = subst (λ x. Runs x us o) (sym a) b
runs_on m n o (t ∷ ts) us a b = (a.0, a.1, a.2, runs_on a.0 n o ts us a.3 b)

pub traces_none : (c : Choice) (m : Watched) (text : List ℕ) → Traces c m m text text
traces_none c m text = record { told = []; runs = refl; text = sym (append-nil text) }

pub traces_one : (c : Choice) (m n : Watched) (t : Told) (old new : List ℕ) → IsEvent m t.entry n → HasBytes t n → new ≡ old ++ chosen_line c t → Traces c m n old new
traces_one c m n t old new event bytes e = record {
  told = t ∷ [];
  runs = (n, event, bytes, refl);
  text = e ∙ ap (λ xs. old ++ xs) (sym (append-nil (chosen_line c t)));
}

pub traces_on : (c : Choice) (m n o : Watched) (old between new : List ℕ) → Traces c m n old between → Traces c n o between new → Traces c m o old new
traces_on c m n o old between new a b = record {
  told = a.told ++ b.told;
  runs = runs_on m n o a.told b.told a.runs b.runs;
  text =
      b.text
      ∙ ap (λ xs. xs ++ flat_map (chosen_line c) b.told) a.text
      ∙ append_assoc old (flat_map (chosen_line c) a.told) (flat_map (chosen_line c) b.told)
      ∙ ap (λ xs. old ++ xs) (sym (flat_map-append (chosen_line c) a.told b.told));
}

pub goes_none : (c : Choice) (m : Watched) (text : List ℕ) → Goes c m text c m text
goes_none c m text = record { same = refl; traces = traces_none c m text }

pub goes_on : (c d f : Choice) (m n o : Watched) (old between new : List ℕ) → Goes c m old d n between → Goes d n between f o new → Goes c m old f o new
goes_on c d f m n o old between new a b = record {
  same = b.same ∙ a.same;
  traces = traces_on c m n o old between new a.traces (subst (λ x. Traces x n o between new) a.same b.traces);
}

-- ---- one event, and its line

-- what is told of an event that leaves the host as n
told_at : (m n o : Watched) (e : Entry) (works : List Work) (passed : List Passed) → IsEvent m e n → o ≡ n
    → IsEvent m e o × HasBytes (record { entry = e; works = works; passed = passed; sent = n.recorded.sent; got = n.recorded.got }) o
told_at m n o e works passed event same = (subst (λ x. IsEvent m e x) (sym same) event, record { sent = ap (λ (x : Watched). x.recorded.sent) (sym same); got = ap (λ (x : Watched). x.recorded.got) (sym same) })

pub goes_event : (c d : Choice) (m n o : Watched) (old new : List ℕ) (e : Entry) → IsEvent m e n → Puts c n old e d o new → Goes c m old d o new
goes_event c d m n o old new e event puts =
    let at = told_at m n o e puts.works puts.passed event puts.host in
    record {
      same = puts.same;
      traces = traces_one c m o (record { entry = e; works = puts.works; passed = puts.passed; sent = n.recorded.sent; got = n.recorded.got }) old new at.0 at.1 puts.text;
    }

pub goes_controlled : (c d : Choice) (m n o : Watched) (old new : List ℕ) (e : Entry) → IsControlled m e n → Puts c n old e d o new → Goes c m old d o new
goes_controlled c d m n o old new e event puts = goes_event c d m n o old new e (inl event) puts

pub if_driven : {T E : Type 0} (r : Result T E) (c d : Choice) (m n o : Watched) (old new : List ℕ) (e : Entry) → IsDriven m e n → IfOk r (λ _. Puts c n old e d o new)
    → IfOk r (λ _. Goes c m old d o new)
if_driven (Err x) c d m n o old new e event puts = tt
if_driven (Ok x) c d m n o old new e event puts = goes_event c d m n o old new e (inr (inl event)) puts

pub goes_commanded : (c d : Choice) (m n o : Watched) (old new : List ℕ) (e : Entry) → IsCommanded m e n → Puts c n old e d o new → Goes c m old d o new
goes_commanded c d m n o old new e event puts = goes_event c d m n o old new e (inr (inr event)) puts
