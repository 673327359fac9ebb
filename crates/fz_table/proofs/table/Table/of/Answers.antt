use Rattle.std.proofs.Common.{◌≡◌, ◌+◌, ◌-◌, Ok, refl, sym, ◌∙◌, ap, arith, rules}
use Rattle.fz_block.specs.Header.{data_start_of}
use Rattle.fz_table.specs.Columns.{column_called}
use Rattle.fz_table.specs.Tables.{heap_start_of, rows_len_of, coded_name, stored_name, gzip_name}
use Rattle.fz_table.proofs.Tables.{PassesRows, in_array, in_fields, in_rows, in_heap, in_names, in_none, data_rows, table_is}
use Rattle.fz_table.proofs.table.Table.of.Goals as goal

pub returns-in_err-check_array-clause-exact : goal.returns-in_err-check_array-clause-exact
returns-in_err-check_array-clause-exact c =
    let refused = in_array c.args.buf.now c.args.header.now _ c.in_err-check_array.ensures.exact in
    search (rules, refused)

pub returns-in_err-fields-clause-exact : goal.returns-in_err-fields-clause-exact
returns-in_err-fields-clause-exact c =
    let refused = in_fields c.args.buf.now c.args.header.now _ c.in_ok-check_array.ensures.exact c.in_err-fields.ensures.exact in
    search (rules, refused)

pub returns-in_err-row_bytes-clause-exact : goal.returns-in_err-row_bytes-clause-exact
returns-in_err-row_bytes-clause-exact c =
    let refused = in_rows c.args.buf.now c.args.header.now _ _ c.in_ok-check_array.ensures.exact c.in_ok-fields.ensures.exact c.in_ok-fields.ensures.count.0 c.in_err-row_bytes.ensures.exact in
    search (rules, refused)

pub heap_start-requires-clause-data : goal.heap_start-requires-clause-data
heap_start-requires-clause-data c =
    let array = c.in_ok-check_array.ensures.array in
    data_rows c.args.buf.now c.args.header.now c.requires.header array.0 array.1 array.2

pub returns-in_err-heap_start-clause-exact : goal.returns-in_err-heap_start-clause-exact
returns-in_err-heap_start-clause-exact c =
    let header = c.args.buf.now in
    let h = c.args.header.now in
    let rows : PassesRows header h c.in_ok-fields.fields = record {
      array = c.in_ok-check_array.ensures.exact;
      fields = c.in_ok-fields.ensures.exact;
      count = c.in_ok-fields.ensures.count.0;
      rows = c.in_ok-row_bytes.ensures.exact;
    } in
    let refused = in_heap header h _ _ rows c.in_err-heap_start.ensures.exact in
    search (rules, refused)

pub returns-in_err-columns-clause-exact : goal.returns-in_err-columns-clause-exact
returns-in_err-columns-clause-exact c =
    let header = c.args.buf.now in
    let h = c.args.header.now in
    let rows : PassesRows header h c.in_ok-fields.fields = record {
      array = c.in_ok-check_array.ensures.exact;
      fields = c.in_ok-fields.ensures.exact;
      count = c.in_ok-fields.ensures.count.0;
      rows = c.in_ok-row_bytes.ensures.exact;
    } in
    let refused = in_names header h _ _ rows c.in_ok-heap_start.ensures.exact c.in_err-columns.ensures.exact in
    search (rules, refused)

pub returns-clause-exact : goal.returns-clause-exact
returns-clause-exact c =
    let header = c.args.buf.now in
    let h = c.args.header.now in
    let count = c.in_ok-fields.ensures.count.0 in
    let rows : PassesRows header h c.in_ok-fields.fields = record {
      array = c.in_ok-check_array.ensures.exact;
      fields = c.in_ok-fields.ensures.exact;
      count = count;
      rows = c.in_ok-row_bytes.ensures.exact;
    } in
    let array = c.in_ok-check_array.ensures.array in
    let whole = data_rows header h c.requires.header array.0 array.1 array.2 in
    let found = c.in_ok-columns.ensures.found in
    let start = c.in_ok-heap_start.ensures.start in
    let heap_at : c.data_start-rows_at.result + c.in_ok-heap_start.heap_start ≡ data_start_of h + heap_start_of header h = omega (arith, start, c.data_start-rows_at.ensures) in
    let heap_len : h.data_len - c.in_ok-heap_start.heap_start ≡ rows_len_of h + h.pcount - heap_start_of header h = omega (arith, start, whole) in
    ap Ok (table_is header h _ c.in_ok-row_bytes.ensures.len.0 refl c.data_start-rows_at.ensures heap_at heap_len
    (found.coded.called ∙ ap (column_called coded_name header) count)
    (found.stored.called ∙ ap (column_called stored_name header) count)
    (found.gzip.called ∙ ap (column_called gzip_name header) count))
    ∙ sym (in_none header h c.in_ok-fields.fields rows c.in_ok-heap_start.ensures.exact c.in_ok-columns.ensures.exact)
