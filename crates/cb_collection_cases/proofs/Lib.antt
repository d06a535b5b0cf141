mod Collects
