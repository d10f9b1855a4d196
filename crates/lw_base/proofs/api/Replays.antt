-- Concatenating runs, and extending a run by one event. For runs of the source, of the machine and of
-- searches.
use Rattle.lw_base.proofs.Common.{◌≡◌, ℕ, suc, ◌+◌, ◌<◌, List, [], ◌∷◌, ◌++◌, length, take, get_or, Ok}
use Rattle.lw_base.proofs.Common.{Result, refl, sym, ap, ◌∙◌, subst, arith, take-suc, Event, Stop, RunsTo}

module _ {State : Type 0} (Done : Event → State → Result (Unit {0}) Stop → State → Type 0) where
  -- A run by one list of events followed by a run by another is a run by both.
  pub RunsTo-append : (es fs : List Event) (s mid end : State)
      → RunsTo Done es s mid
      → RunsTo Done fs mid end
      → RunsTo Done (es ++ fs) s end
  RunsTo-append [] fs s mid end r q = subst (λ (m : State). RunsTo Done fs m end) r q
  RunsTo-append (e ∷ es) fs s mid end r q = (r.0, r.1, RunsTo-append es fs r.0 mid end r.2 q)

  -- If the events es lead from s to mid, and e leads from mid to end, then es and then e lead from s to end.
  RunsTo-push : (es : List Event) (e : Event) (s mid end : State)
      → RunsTo Done es s mid
      → Done e mid (Ok tt) end
      → RunsTo Done (es ++ e ∷ []) s end
  RunsTo-push es e s mid end ran done = RunsTo-append es (e ∷ []) s mid end ran (end, done, refl)

  -- If the first n of the events lead from s to mid, and the event at index n leads from mid to end, then the first n + 1 lead
  -- from s to end.
  pub RunsTo-next : (events : List Event) (n : ℕ) (e : Event) (s mid end : State)
      → n < length events
      → e ≡ get_or events n e
      → RunsTo Done (take n events) s mid
      → Done e mid (Ok tt) end
      → RunsTo Done (take (n + 1) events) s end
  RunsTo-next events n e s mid end within is ran done =
      let pushed = RunsTo-push (take n events) e s mid end ran done in
      let more = take-suc events n e within ∙ ap (λ (x : Event). take n events ++ x ∷ []) (sym is) in
      let next : suc n ≡ n + 1 = omega arith in
      subst (λ (es : List Event). RunsTo Done es s end) (sym more ∙ ap (λ (k : ℕ). take k events) next) pushed
