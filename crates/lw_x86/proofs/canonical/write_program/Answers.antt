-- `write_program` promises the canonical text, that it is short enough to be read, and that it reads back as
-- the program. The text is what `write_parts` ensures; the other two clauses are `IsTextOf-canonical_text` of a
-- well-formed program.
use Rattle.lw_x86.proofs.Common.{◌≡◌, length, sym, ap, subst, arith, common_steps, Bytes, test_of}
use Rattle.lw_x86.proofs.Common.{canonical_text, IsTextOf}
use Rattle.lw_x86.proofs.PrintedTests.{IsTextOf-canonical_text}
use Rattle.lw_x86.proofs.canonical.write_program.Goals as goal

-- The text is the canonical one, so it is short enough and reads back.
pub returns : goal.returns
returns g c =
    let p = test_of c.args.program.now.head c.args.program.now.threads in
    let text : c.from.result ≡ canonical_text p = grind (arith, common_steps) in
    let back = IsTextOf-canonical_text p c.args.program.now.well_formed in
    record {
      text = text;
      short = omega (arith, ap length text, back.has_frame.short);
      reads_back = subst (λ (t : Bytes). IsTextOf t p) (sym text) back;
    }
