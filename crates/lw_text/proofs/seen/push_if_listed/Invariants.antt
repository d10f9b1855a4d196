-- At each round `seen` is unchanged, and no site before the index is the wanted one.
use Rattle.lw_text.proofs.Common.{◌≡◌, false, take, seen_of, is_listed}
use Rattle.lw_text.proofs.seen.push_if_listed.Given as goal

abbrev pub invariant-loop-listed : goal.invariant-loop-listed
invariant-loop-listed g l =
    record { same : l.seen ≡ l.fn.seen; none : is_listed (take l.listed-index l.sites) (seen_of l.site) ≡ false }
