-- Every line of the table holds, by computing.
use mathlib.Core.Path.{refl}
use lib.Ieee.{of_bits, to_bits}
use Rattle.words.specs.Bytes.{number_of}
use Rattle.grouping.specs.Groups.{split_from, ends_from}
use Rattle.sums.specs.Refusals.{padded}
use Rattle.results.specs.Grouping.{all_pass, times_in, each_once, rising, numbers_fit, content_fits, sound}
use Rattle.results.specs.Files.{written, stored_at, stored_in, is_result, reads}
use Rattle.results.specs.Calls.{write_refusal, write_call}
use Rattle.batch.specs.Shape.{trailer_at, fits_file, shape_of}
use Rattle.batch.specs.Listing.{places_from, decimal, row_numbers, group_line, listing}
use Rattle.batch.specs.Batch.{answer_by}
use Rattle.worked.specs.Table.{half, Table}
use Rattle.worked.proofs.Opened.{opened}
use Rattle.worked.proofs.Settled.{P1-parts, P1-lost, P2-parts, P2-lost, P2-refused, split-lost, P10-settles, shape-parts, shape-lost, far-parts, far-lost, unit-settles}

pub table-holds : Table
unfolding opened split_from ends_from of_bits to_bits padded all_pass times_in each_once rising numbers_fit content_fits sound written stored_at stored_in is_result reads write_refusal write_call number_of trailer_at fits_file shape_of places_from decimal row_numbers group_line listing answer_by
table-holds = record {
  P1 = rw (P1-parts, P1-lost);
  P1-listing = rw (P1-parts, P1-lost);
  P1-written = refl;
  P1-read = refl;
  P1-twice = refl;
  no_bytes = refl;
  P2 = rw (P2-refused 3 0);
  P2-balanced = rw (P2-parts, P2-lost half 0);
  P3-share = refl;
  P3-allowance = refl;
  P3-sizes = refl;
  P3-moves = refl;
  P4 = refl;
  P5 = refl;
  P6 = refl;
  P7 = refl;
  P7-strict = refl;
  P7-unplaced = refl;
  P8 = refl;
  P8-wide = refl;
  P9 = refl;
  P10 = rw P10-settles;
  lost_split = rw split-lost;
  by_distance = rw (far-parts, far-lost);
  by_shape = rw (shape-parts, shape-lost);
  unit = rw unit-settles;
  P11 = λ a b c weight. refl;
  P12 = λ a b c weight. refl;
  P12-two_rows = λ a b weight. refl;
}
