mod Pair
