use Rattle.std.proofs.Common.{◌≡◌, ◌<◌, length, Some, arith, sym, rules}
use Rattle.option_words.specs.Options.{row_named}
use Rattle.option_words.specs.Tables.{rows_of, row_of}
use Rattle.option_words.specs.Word.{texts}
use Rattle.option_words.proofs.Steps.{unknown, repeated, first, row_is, stands, within, stops_next, goes_on}
use Rattle.option_words.proofs.option.options_len.Goals as goal

pub returns-in_default : goal.returns-in_default
returns-in_default c = record {
  ok = tt;
  ok_within = tt;
  err = unknown c.args.rows.now c.args.words.now c.loop-name.place c.loop-name.invariant.1 c.in-Some.name.now (sym c.in-Some.ensures) (c.begins_with_dash.ensures.0 c.if-begins_with_dash.true) (sym c.in_default.ensures);
  err_within = search rules;
}

pub returns-then-contains : goal.returns-then-contains
returns-then-contains c = record {
  ok = tt;
  ok_within = tt;
  err = repeated c.args.rows.now c.args.words.now c.loop-name.place c.loop-name.invariant.1 c.in-Some.name.now c.requires (sym c.in-Some.ensures) (c.begins_with_dash.ensures.0 c.if-begins_with_dash.true) (sym c.if-contains.ensures);
  err_within = search rules;
}

pub returns-in_default-value_len : goal.returns-in_default-value_len
returns-in_default-value_len c = record {
  ok = tt;
  ok_within = tt;
  err = let row : row_named (rows_of c.args.rows.now) c.in-Some.name.now ≡ Some (row_of c.in-Some-find_row.row.now) = row_is c.args.rows.now c.in-Some.name.now c.in-Some-find_row.row.now (sym c.in-Some-find_row.ensures) in
      stops_next (rows_of c.args.rows.now) (texts c.args.words.now) c.loop-name.place c.loop-name.invariant.1 c.in-Some.name.now (row_of c.in-Some-find_row.row.now) c.requires (sym c.in-Some.ensures) (c.begins_with_dash.ensures.0 c.if-begins_with_dash.true) row
      (first c.args.rows.now c.args.words.now c.loop-name.place c.loop-name.invariant.1 c.in-Some.name.now (sym c.if-contains.ensures))
      c.in_default-value_len.ensures.none;
  err_within = let lt : c.loop-name.place < length c.args.words.now = stands c.args.words.now c.loop-name.place c.in-Some.name.now (sym c.in-Some.ensures) in omega arith;
}

pub loop-name-smaller : goal.loop-name-smaller
loop-name-smaller c =
    let lt : c.loop-name.place < length c.args.words.now = stands c.args.words.now c.loop-name.place c.in-Some.name.now (sym c.in-Some.ensures) in omega arith

pub loop-name-preserved : goal.loop-name-preserved
loop-name-preserved c =
    let lt : c.loop-name.place < length c.args.words.now = stands c.args.words.now c.loop-name.place c.in-Some.name.now (sym c.in-Some.ensures) in
    let row : row_named (rows_of c.args.rows.now) c.in-Some.name.now ≡ Some (row_of c.in-Some-find_row.row.now) = row_is c.args.rows.now c.in-Some.name.now c.in-Some-find_row.row.now (sym c.in-Some-find_row.ensures) in (
      within c.in-Some-find_row.row.now.takes c.args.words.now c.loop-name.place c.in-Some-value_len.len lt c.in-Some-value_len.ensures.some,
      goes_on (rows_of c.args.rows.now) (texts c.args.words.now) c.loop-name.place c.in-Some-value_len.len c.loop-name.invariant.1 c.in-Some.name.now (row_of c.in-Some-find_row.row.now) (sym c.in-Some.ensures) (c.begins_with_dash.ensures.0 c.if-begins_with_dash.true) row
          (first c.args.rows.now c.args.words.now c.loop-name.place c.loop-name.invariant.1 c.in-Some.name.now (sym c.if-contains.ensures)) c.in-Some-value_len.ensures.some,
    )
