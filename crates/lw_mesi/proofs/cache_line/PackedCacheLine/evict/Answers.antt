-- Proves `PackedCacheLine::evict`, which evicts a processor's copy as the protocol's table says. One lemma for
-- each state of the copy: a sharer (`unpacked-sharer_evicted`), a dirty owner, whose word goes to memory (`unpacked-dirty_owner_evicted`),
-- and a clean owner (`unpacked-clean_owner_evicted`).
use Rattle.lw_mesi.proofs.Common.{◌≡◌, ℕ, sym, ap, ◌∙◌, CacheLine, Inside, unpacked, copy_of, copy_state}
use Rattle.lw_mesi.proofs.Common.{LineState}
use Rattle.lw_mesi.proofs.PackedWrites.{unpacked-sharer_evicted, unpacked-dirty_owner_evicted}
use Rattle.lw_mesi.proofs.PackedWrites.{unpacked-clean_owner_evicted}
use Rattle.lw_mesi.proofs.cache_line.PackedCacheLine.evict.Goals as goal

-- If the unpacked line is `line`, a state that was found for t's copy in `line` is that of t's copy in the unpacked line.
copy_state-unpacked : (p : Inside) {line : CacheLine} (t : ℕ) {found : LineState}
    → unpacked p ≡ line
    → found ≡ copy_state (copy_of line t)
    → found ≡ copy_state (copy_of (unpacked p) t)
copy_state-unpacked p t is here = here ∙ ap (λ l. copy_state (copy_of l t)) (sym is)

pub returns-in-S-clause-ok : goal.returns-in-S-clause-ok
returns-in-S-clause-ok c =
    let found = copy_state-unpacked c.self.inside c.args.cpu c.self.view_is c.state_of.ensures in
    rw (← c.self.view_is, c.remove.ensures)
    (unpacked-sharer_evicted c.self.inside c.args.cpu c.self.invariant c.requires (rw found at c.in-S.is))

pub returns-in-M-clause-ok : goal.returns-in-M-clause-ok
returns-in-M-clause-ok c =
    let found = copy_state-unpacked c.self.inside c.args.cpu c.self.view_is c.state_of.ensures in
    rw (← c.self.view_is)
    (unpacked-dirty_owner_evicted c.self.inside c.args.cpu c.self.invariant c.requires (rw found at c.in-M.is))

pub returns-in-E-clause-ok : goal.returns-in-E-clause-ok
returns-in-E-clause-ok c =
    let found = copy_state-unpacked c.self.inside c.args.cpu c.self.view_is c.state_of.ensures in
    rw (← c.self.view_is)
    (unpacked-clean_owner_evicted c.self.inside c.args.cpu c.self.invariant c.requires (rw found at c.in-E.is))
