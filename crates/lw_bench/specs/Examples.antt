-- The text of an example and its report, byte by byte: the file examples/SB-x86.litmus, and what `lw states` prints of it, which
-- README.md shows. tools/check_documents.py compares them with the files.
use Rattle.std.specs.Prelude.{◌++◌, codes}
use Rattle.lw_base.specs.Types.{Bytes}

-- The comment of the example's text, between `(*` and `*)`.
abbrev pub store_buffering_notes : Bytes
store_buffering_notes =
    codes " Store buffering in x86 instructions. Both stores wait in the store buffers while the loads go ahead, so both\n"
    ++ (codes "   loads take the 0 that memory still has; the drains come last. Each cache then holds the line that it has\n"
    ++ (codes "   written in state M, and memory's own words are as they were.\n"
    ++ codes "   Interleaving: forbidden. x86-TSO: allowed. A telling schedule: P0 P0 P1 P1 D0 D1 "))

-- The bytes of the test after the notes: the block, the rows and the condition.
abbrev pub store_buffering_body : Bytes
store_buffering_body =
    codes "{}\n"
    ++ (codes " P0 | P1 ;\n"
    ++ (codes " MOV [x],$1 | MOV [y],$1 ;\n"
    ++ (codes " MOV EAX,[y] | MOV EAX,[x] ;\n"
    ++ codes "exists (0:EAX=0 /\\ 1:EAX=0)\n")))

-- The bytes of examples/SB-x86.litmus: the language, the name, the notes and the test.
abbrev pub store_buffering_text : Bytes
store_buffering_text = codes "X86 SB-x86\n(*" ++ (store_buffering_notes ++ (codes "*)\n" ++ store_buffering_body))

-- The output of `lw states` on it.
abbrev pub store_buffering_report : Bytes
store_buffering_report =
    codes "Test SB-x86 Allowed\n"
    ++ (codes "States 4\n"
    ++ (codes "0:EAX=0; 1:EAX=0;\n"
    ++ (codes "0:EAX=0; 1:EAX=1;\n"
    ++ (codes "0:EAX=1; 1:EAX=0;\n"
    ++ (codes "0:EAX=1; 1:EAX=1;\n"
    ++ (codes "Ok\n"
    ++ (codes "Positive: 1 Negative: 3\n"
    ++ (codes "Condition exists (0:EAX=0 /\\ 1:EAX=0)\n"
    ++ codes "Observation SB-x86 Sometimes 1 3\n"))))))))
