-- The syntax of a body in memory, with the names of its table. `parse_body` and `parse_question` return by
-- these lemmas.
use Rattle.lw_text.proofs.Common.{most_locations, ◌≡◌, ℕ, ◌≤◌, true, List, [], ◌++◌, length, map, sym, ap}
use Rattle.lw_text.proofs.Common.{◌∙◌, subst, arith, AllByRecursion, list_all, All-from_recursion, NameTable}
use Rattle.lw_text.proofs.Common.{TokenList, Arch, Quant, Prop, insert_names, insert_names-append, Cursor}
use Rattle.lw_text.proofs.Common.{Header, Rows, with_sites, ThreadExists, site_names, Listed, Quantified}
use Rattle.lw_text.proofs.Common.{sites_in, Block, location_table, sites_of, all_texts, remaining_texts}
use Rattle.lw_text.proofs.Common.{site_by_name, named_initializer, thread_exists, IsIn, syntax_of, HasSyntax}
use Rattle.lw_text.proofs.Common.{ParsedBody, ParsedBlock, ParsedNameList, ParsedProposition, ParsedQuestion}
use Rattle.lw_text.proofs.Common.{AllByRecursion-of_All}
use Rattle.lw_text.specs.declared.site.Site.{Site as MadeSite}
use Rattle.lw_text.proofs.NameTables.{site_by_name-insert_names, named_initializer-insert_names}
use Rattle.lw_text.proofs.NameTables.{names_and_sites-insert_names}
use Rattle.lw_text.proofs.Whole.{names_of_initializers, ThreadExists-all_initializers, table_parts}

-- If the list of names, the quantifier and the proposition were read in sequence, while the table grew, a question was read.
pub ParsedQuestion-of_parts : {A : Type 0} {arch : Arch} {threads : ℕ} {before after : Cursor} {first names last : NameTable}
    {ss : List MadeSite} {p : Prop A}
    → ParsedNameList arch threads before after first names ss
    → (quant : Quant) (end : TokenList)
    → Quantified (remaining_texts after) quant end
    → ParsedProposition arch threads end names last p
    → ParsedQuestion arch threads (remaining_texts before) first last ss quant p
ParsedQuestion-of_parts {arch = arch} {threads} {before} {after} {first} {names} {last} {ss} taken quant end quantifies prop =
    let more = site_names (sites_in prop.terminals) in
    let along =
    names_and_sites-insert_names _ site_by_name site_by_name-insert_names names last more ss prop.names_are
    (AllByRecursion-of_All ss _ taken.within) in
    record {
      terminals = prop.terminals;
      parsed = record {
        after_list = remaining_texts after;
        after_quant = end;
        lists = subst (λ l. Listed arch (remaining_texts before) l (remaining_texts after)) (sym along.0) taken.parsed;
        threads_exist = subst (AllByRecursion (ThreadExists threads)) (sym along.0) taken.threads_exist;
        quantifies = quantifies;
        says = prop.parsed;
      };
      names_are =
          prop.names_are
          ∙ ap (λ ns. insert_names ns more) taken.names_are
          ∙ ap (λ l. insert_names (with_sites first l) more) (sym along.0);
      few_nodes = prop.few_nodes;
      says = prop.says;
      within = All-from_recursion (IsIn last) ss along.1;
    }

-- If the parts of a test were read in sequence, while the table grew, the body has the syntax that the tokens say.
pub HasSyntax-of_parts : {A : Type 0} {arch : Arch} {before after : Cursor} {first : NameTable} {b : ParsedBody A}
    → ParsedBlock arch before after [] first b.parts.initializers
    → (rest end : TokenList)
    → Header (remaining_texts after) b.parts.threads rest
    → list_all (λ e. thread_exists b.parts.threads e.site) b.parts.initializers ≡ true
    → Rows b.parts.threads rest (all_texts b.rows) end
    → ParsedQuestion arch b.parts.threads end first b.parts.locs b.parts.listed b.parts.quant b.parts.prop
    → length b.parts.locs ≤ most_locations
    → HasSyntax arch (remaining_texts before) b
HasSyntax-of_parts {arch = arch} {before} {after} {first} {b} block rest end header there rows question few =
    let es = b.parts.initializers in
    let last = b.parts.locs in
    let n = b.parts.threads in
    let listed = site_names (map (site_by_name last) b.parts.listed) in
    let more = site_names (sites_in question.terminals) in
    let along =
    names_and_sites-insert_names _ named_initializer named_initializer-insert_names first last (listed ++ more) es
    (question.names_are ∙ sym (insert_names-append first listed more))
    (AllByRecursion-of_All es (λ e. IsIn first e.site) block.within) in
    let syntax = syntax_of b question.terminals in
    let last_table : last ≡ location_table syntax =
    question.names_are
    ∙ ap (λ ns. insert_names (insert_names ns listed) more)
    (names_of_initializers first es block.names_are ∙ ap (λ l. with_sites [] (sites_of l)) (sym along.0))
    ∙ sym (table_parts syntax) in
    record {
      terminals = question.terminals;
      parts = record {
        after_block = remaining_texts after;
        after_header = rest;
        after_rows = end;
        block = subst (λ l. Block arch (remaining_texts before) l (remaining_texts after)) (sym along.0) block.parsed;
        header = header;
        threads_exist =
            subst (λ l. AllByRecursion (λ e. ThreadExists n e.site) l) (sym along.0)
            (ThreadExists-all_initializers n first es there);
        rows = rows;
        question = question.parsed;
        few_names = omega (arith, few, ap length last_table);
        few_nodes = question.few_nodes;
      };
      names = last_table;
      proposition = question.says;
      initializers_in = All-from_recursion (λ e. IsIn last e.site) es along.1;
      listed_in = question.within;
    }
